use Rattle.std.proofs.Common.{◌≡◌, arith}
use Rattle.row.specs.declared.Row.{Row}
use Rattle.row.specs.Rows.{Lanes, ps3}
use Rattle.row.specs.Undone.{unps3, undo2, undo_by}
use Rattle.row.proofs.RowLaws.{ps3_onto, ps3_undone}
use Rattle.row.proofs.Undoing.{undoes_by}
use Rattle.row.proofs.Row.undo_perm_shift3.Goals as goal

steps : (x a b c d e : Row) → a ≡ ps3 x → b ≡ undo2 a → c ≡ undo_by 4 b → d ≡ undo_by 8 c → e ≡ undo_by 16 d → e ≡ unps3 x
unfolding unps3
steps x a b c d e p q r s t = cc

pub returns : goal.returns
returns c =
    let x = c.args.self in
    let e = steps x _ _ _ _ _ c.perm_shift3.ensures c.undo_two.ensures c.undo_by.ensures
    c.undo_by-2.ensures c.undo_by-3.ensures in
    let u = undoes_by Lanes ps3 unps3 x _ e (ps3_onto x (omega (arith, c.well_formed))) ps3_undone in
    record { is = e; solves = u.solves; undoes = u }
