use Rattle.std.proofs.Common.{◌≡◌}
use Rattle.row.specs.Rows.{Lanes, step_row}
use Rattle.row.specs.Undone.{unstep_row}
use Rattle.row.proofs.StepLaws.{undone_stepped, step_undone}
use Rattle.row.proofs.Undoing.{undoes_by}
use Rattle.row.proofs.recursion.unstep.Goals as goal

pub returns : goal.returns
unfolding unstep_row
returns c =
    let a = c.args in
    let e : c.from-3.result ≡ unstep_row a.mask a.new a.prev a.m =
    rw (c.from.ensures, c.from-2.ensures, c.mix.ensures) at c.from-3.ensures in
    let u = undoes_by Lanes (step_row a.mask a.prev a.m) (λ n. unstep_row a.mask n a.prev a.m) a.new _ e
    (undone_stepped a.mask a.new a.prev a.m) (λ y h. step_undone a.mask a.prev a.m y) in
    record { is = e; solves = u.solves; undoes = u }
