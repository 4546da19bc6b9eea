use Rattle.std.proofs.Common.{◌≤◌, length, ap, ◌∙◌}
use Rattle.std.specs.List.{slice_range}
use Rattle.cover.proofs.Covering.{block_covers, rest_streamed}
use Rattle.cover.proofs.blocks.cover_part.Goals as goal

pub returns : goal.returns
returns g c ws i made =
    let f = g.F.Filter in
    let whole = g.met.F.Filter.whole in
    let block = c.args.block in
    let n = length c.args.bytes.now in
    let few : n ≤ f.SIZE = c.requires in
    let rest = rest_streamed f whole ws i n block made few in
    let left = c.new.ensures ∙ ap (λ l. slice_range block l c.SIZE.result) c.xor.auto.bytes ∙ ap (slice_range block n) c.SIZE.ensures ∙ rest in
    (c.xor.ensures ∙ block_covers f whole ws i block c.args.bytes.now made few, left)
