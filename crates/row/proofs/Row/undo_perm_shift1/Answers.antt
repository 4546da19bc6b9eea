use Rattle.std.proofs.Common.{◌≡◌, arith}
use Rattle.row.specs.Rows.{Lanes, ps1}
use Rattle.row.specs.Undone.{unps1}
use Rattle.row.proofs.RowLaws.{ps1_onto, ps1_undone}
use Rattle.row.proofs.Undoing.{undoes_by}
use Rattle.row.proofs.Row.undo_perm_shift1.Goals as goal

pub returns : goal.returns
unfolding unps1
returns c =
    let x = c.args.self in
    let e : c.from.result ≡ unps1 x = rw c.from-x.ensures at c.from.ensures in
    let u = undoes_by Lanes ps1 unps1 x _ e (ps1_onto x (omega (arith, c.well_formed))) ps1_undone in
    record { is = e; solves = u.solves; undoes = u }
