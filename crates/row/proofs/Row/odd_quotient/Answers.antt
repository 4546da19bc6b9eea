use Rattle.std.proofs.Common.{arith}
use Rattle.row.specs.Rows.{Lanes, ◌⊗₃₂◌, ◌⊘₃₂◌}
use Rattle.row.proofs.RowLaws.{same_row, rows_quotient_is, rows_quotient_undoes}
use Rattle.row.proofs.Undoing.{undoes_by}
use Rattle.row.proofs.Row.odd_quotient.Goals as goal

pub returns : goal.returns
returns c =
    let z = c.args.self in
    let x = c.args.x in
    let q = c.odd_quotient.ensures in
    let e = same_row (q 3) (q 2) (q 1) (q 0) in
    let fit : Lanes x = omega (arith, c.well_formed) in
    let u = undoes_by Lanes (λ y. y ⊗₃₂ x) (λ t. t ⊘₃₂ x) z _ e (rows_quotient_is z x (omega (arith, c.well_formed)) fit)
    (λ y h. rows_quotient_undoes y x h fit) in
    record { is = e; solves = u.solves; undoes = u }
