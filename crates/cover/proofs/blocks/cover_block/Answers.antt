use Rattle.std.proofs.Common.{◌∙◌, arith}
use Rattle.cover.proofs.Covering.{block_covers}
use Rattle.cover.proofs.blocks.cover_block.Goals as goal

pub returns : goal.returns
returns g c ws i at low =
    let next = c.in_ok-block.ensures ws i at low in
    let bytes = block_covers g.F.Filter g.met.F.Filter.whole ws i c.in_ok-block.block c.args.bytes.now next.0 (omega (arith, c.requires)) in
    (c.xor.ensures ∙ bytes, next.1, next.2)
