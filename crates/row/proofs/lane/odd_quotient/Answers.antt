use Rattle.std.proofs.Common.{arith}
use Rattle.row.specs.Lanes.{Lane, ◌⊗◌, ◌⊘◌}
use Rattle.row.proofs.LaneLaws.{quotient_is, quotient_undoes}
use Rattle.row.proofs.Undoing.{undoes_by}
use Rattle.row.proofs.lane.odd_quotient.Goals as goal

pub returns : goal.returns
returns c =
    let z = c.args.z in
    let x = c.args.x in
    let e = c.odd_quotient.ensures 0 in
    let u = undoes_by Lane (λ y. y ⊗ x) (λ t. t ⊘ x) z _ e (quotient_is z x (omega arith) (omega arith))
    (λ y h. quotient_undoes y x h (omega arith)) in
    record { is = e; solves = u.solves; undoes = u }
