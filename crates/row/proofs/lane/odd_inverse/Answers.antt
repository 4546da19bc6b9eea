use Rattle.std.proofs.Common.{◌*◌, ◌%◌, ◌^◌, ap, ◌∙◌}
use Rattle.row.proofs.LaneLaws.{inverse_is}
use Rattle.row.proofs.lane.odd_inverse.Goals as goal

pub returns : goal.returns
returns c =
    let a = c.args.a in
    let e = c.odd_inverse.ensures 0 in
    record { is = e; solves = λ odd. ap (λ i. (a * i) % 2 ^ 32) e ∙ inverse_is a odd }
