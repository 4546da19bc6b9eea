-- A step of the recursion and its inverse.
use Rattle.std.proofs.Common.{◌≡◌, ℕ, sym, ap, ◌∙◌}
use lib.Bits.{bit_xor, xor_assoc, xor_self, xor_zero_l}
use Rattle.row.specs.declared.Row.{Row}
use Rattle.row.specs.Rows.{mix_row, step_row}
use Rattle.row.specs.Undone.{unstep_row}
use Rattle.row.proofs.RowLaws.{same_row}

xor_again : (a b : ℕ) → bit_xor a (bit_xor a b) ≡ b
xor_again a b = sym (xor_assoc a a b) ∙ ap (λ t. bit_xor t b) (xor_self a) ∙ xor_zero_l b

pub step_undone : (mask prev m oldest : Row) → unstep_row mask (step_row mask prev m oldest) prev m ≡ oldest
unfolding step_row unstep_row
step_undone mask prev m j =
    same_row
    (xor_again (mix_row mask prev m).l2 j.l3)
    (xor_again (mix_row mask prev m).l1 j.l2)
    (xor_again (mix_row mask prev m).l0 j.l1)
    (xor_again (mix_row mask prev m).l3 j.l0)

pub undone_stepped : (mask new prev m : Row) → step_row mask prev m (unstep_row mask new prev m) ≡ new
unfolding step_row unstep_row
undone_stepped mask new prev m =
    same_row
    (xor_again (mix_row mask prev m).l3 new.l3)
    (xor_again (mix_row mask prev m).l2 new.l2)
    (xor_again (mix_row mask prev m).l1 new.l1)
    (xor_again (mix_row mask prev m).l0 new.l0)
