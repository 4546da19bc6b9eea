-- Each operation gives lanes below 2 ^ 32, and a sum and a difference undo one another.
use Rattle.std.proofs.Common.{◌≡◌, ℕ, ◌+◌, ◌-◌, ◌*◌, ◌/◌, ◌%◌, ◌^◌, ◌<◌, ap, ◌∙◌, lt_of_le_of_lt, mod-lt, mod-eq_of_lt, arith, lit<}
use native.Mathlib.Nat.{mod-add-mod}
use lib.Bits.{xor_lt}
use Rattle.std.proofs.lemmas.Nat.{shr_le}
use Rattle.row.specs.declared.Row.{Row}
use Rattle.row.specs.Lanes.{plus, minus, ◌⊗◌, ◌⊘◌}
use Rattle.row.specs.Rows.{Lanes, row, both, ◌⊕◌, ◌>>₃₂◌, at2103, at0321, at1032, ps1, ps2, ps3}
use Rattle.row.specs.Undone.{unps1, unps3, undo2, undo_by}
use Rattle.row.proofs.Modular.{sum_undone}
use Rattle.row.proofs.RowLaws.{same_row}

abbrev shr32 : ℕ → Row → Row
shr32 s x = x >>₃₂ s

-- a remainder is below its divisor
rest : (n : ℕ) → n % 2 ^ 32 < 2 ^ 32
rest n = mod-lt n (lit< tt)

pub lanes_both : (f : ℕ → ℕ → ℕ) → ((a b : ℕ) → f a b < 2 ^ 32) → (x y : Row) → Lanes (both f x y)
lanes_both f h x y = record { l3 = h _ _; l2 = h _ _; l1 = h _ _; l0 = h _ _ }

pub oprod_lt : (a b : ℕ) → ◌⊗◌ a b < 2 ^ 32
unfolding ◌⊗◌
oprod_lt a b = rest (2 * a * b + a + b)

pub oquot_lt : (a b : ℕ) → ◌⊘◌ a b < 2 ^ 32
unfolding ◌⊘◌
oquot_lt a b = rest _

pub plus_lt : (a b : ℕ) → plus a b < 2 ^ 32
plus_lt a b = rest (a + b)

pub minus_lt : (a b : ℕ) → minus a b < 2 ^ 32
minus_lt a b = rest (a + (2 ^ 32 - b))

pub lanes_xors : (x y : Row) → Lanes x → Lanes y → Lanes (◌⊕◌ x y)
lanes_xors x y h k =
    record {
      l3 = xor_lt 32 x.l3 y.l3 h.l3 k.l3;
      l2 = xor_lt 32 x.l2 y.l2 h.l2 k.l2;
      l1 = xor_lt 32 x.l1 y.l1 h.l1 k.l1;
      l0 = xor_lt 32 x.l0 y.l0 h.l0 k.l0;
    }

shr32_lt : (a s : ℕ) → a < 2 ^ 32 → a / 2 ^ s < 2 ^ 32
shr32_lt a s h = lt_of_le_of_lt (shr_le a s) h

pub lanes_shr32 : (s : ℕ) (x : Row) → Lanes x → Lanes (shr32 s x)
lanes_shr32 s x h =
    record { l3 = shr32_lt x.l3 s h.l3; l2 = shr32_lt x.l2 s h.l2; l1 = shr32_lt x.l1 s h.l1; l0 = shr32_lt x.l0 s h.l0 }

lanes_up : (x : Row) → Lanes x → Lanes (at2103 x)
lanes_up x h = record { l3 = h.l2; l2 = h.l1; l1 = h.l0; l0 = h.l3 }

lanes_down : (x : Row) → Lanes x → Lanes (at0321 x)
lanes_down x h = record { l3 = h.l0; l2 = h.l3; l1 = h.l2; l0 = h.l1 }

lanes_across : (x : Row) → Lanes x → Lanes (at1032 x)
lanes_across x h = record { l3 = h.l1; l2 = h.l0; l1 = h.l3; l0 = h.l2 }

pub lanes_ps1 : (x : Row) → Lanes x → Lanes (ps1 x)
unfolding ps1
lanes_ps1 x h = lanes_xors (at2103 x) (shr32 13 x) (lanes_up x h) (lanes_shr32 13 x h)

pub lanes_ps2 : (x : Row) → Lanes x → Lanes (ps2 x)
unfolding ps2
lanes_ps2 x h =
    lanes_xors (row x.l1 x.l0 x.l2 x.l3) (shr32 11 x) (record { l3 = h.l1; l2 = h.l0; l1 = h.l2; l0 = h.l3 }) (lanes_shr32 11 x h)

pub lanes_ps3 : (x : Row) → Lanes x → Lanes (ps3 x)
unfolding ps3
lanes_ps3 x h = lanes_xors x (shr32 1 (at0321 x)) h (lanes_shr32 1 (at0321 x) (lanes_down x h))

pub lanes_unps1 : (x : Row) → Lanes x → Lanes (unps1 x)
unfolding unps1
lanes_unps1 x h =
    lanes_xors (at0321 x) (◌⊕◌ (shr32 13 (at1032 x)) (shr32 26 (at2103 x))) (lanes_down x h)
    (lanes_xors (shr32 13 (at1032 x)) (shr32 26 (at2103 x)) (lanes_shr32 13 (at1032 x) (lanes_across x h)) (lanes_shr32 26 (at2103 x) (lanes_up x h)))

lanes_undo2 : (x : Row) → Lanes x → Lanes (undo2 x)
unfolding undo2
lanes_undo2 x h = lanes_xors x (shr32 2 (at1032 x)) h (lanes_shr32 2 (at1032 x) (lanes_across x h))

lanes_undo_by : (s : ℕ) (x : Row) → Lanes x → Lanes (undo_by s x)
unfolding undo_by
lanes_undo_by s x h = lanes_xors x (shr32 s x) h (lanes_shr32 s x h)

pub lanes_unps3 : (x : Row) → Lanes x → Lanes (unps3 x)
unfolding unps3
lanes_unps3 x h =
    lanes_undo_by 16 _ (lanes_undo_by 8 _ (lanes_undo_by 4 _ (lanes_undo2 _ (lanes_ps3 x h))))

pub minus_plus : (x y : ℕ) → x < 2 ^ 32 → y < 2 ^ 32 → minus (plus x y) y ≡ x
minus_plus x y h k = sum_undone (2 ^ 32) x y (omega arith) ∙ mod-eq_of_lt h

pub plus_minus : (x y : ℕ) → x < 2 ^ 32 → y < 2 ^ 32 → plus (minus x y) y ≡ x
plus_minus x y h k =
    let e : x + (2 ^ 32 - y) + y ≡ x + 2 ^ 32 = omega arith in
    mod-add-mod (x + (2 ^ 32 - y)) (2 ^ 32) y ∙ ap (λ t. t % 2 ^ 32) e ∙ again
  where
    again : (x + 2 ^ 32) % 2 ^ 32 ≡ x
    again = omega arith

-- what undoes a lane's operation undoes it on rows
pub both_undone : (f g : ℕ → ℕ → ℕ) → ((a b : ℕ) → a < 2 ^ 32 → b < 2 ^ 32 → g (f a b) b ≡ a)
    → (x y : Row) → Lanes x → Lanes y → both g (both f x y) y ≡ x
both_undone f g e x y h k =
    same_row
    (e x.l3 y.l3 h.l3 k.l3)
    (e x.l2 y.l2 h.l2 k.l2)
    (e x.l1 y.l1 h.l1 k.l1)
    (e x.l0 y.l0 h.l0 k.l0)
