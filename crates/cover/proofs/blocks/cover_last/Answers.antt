use Rattle.std.proofs.Common.{◌*◌, ◌+◌, length, refl, arith}
use Rattle.mother.specs.Means.{means}
use Rattle.cover.proofs.Covering.{between_after, few_blocks}
use Rattle.cover.proofs.blocks.cover_last.Goals as goal

pub returns-in_err-block : goal.returns-in_err-block
returns-in_err-block g c ws i at low =
    absurd (c.in_err-block.ensures ws i at (few_blocks i g.F.Filter.SIZE g.met.F.Filter.some (omega arith)))

pub returns : goal.returns
returns g c ws i at low =
    let f = g.F.Filter in
    let n = length c.args.bytes.now in
    let made = c.in_ok-block.ensures ws i at (few_blocks i f.SIZE g.met.F.Filter.some (omega arith)) in
    let part = c.cover_part.ensures ws i made.0 in (
      part.0,
      between_after (means g.M.Mother) f c.next_block.new.mother c.next_block.new.memory ws i n (i * f.SIZE + n) c.cover_part.result made.1 refl
          c.requires.0 c.requires.1 part.1,
      made.2,
    )
