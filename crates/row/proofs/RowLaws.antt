-- The inverses of rows.
use Rattle.std.proofs.Common.{◌≡◌, ℕ, ◌+◌, ◌/◌, ◌^◌, ◌<◌, sym, ap, ◌∙◌, add_comm, arith}
use lib.Bits.{bit_xor, xor_shr, xor_assoc, xor_self, xor_zero_l, xor_zero_r, xor_comm}
use Rattle.std.proofs.lemmas.Nat.{shr-shr}
use Rattle.row.specs.declared.Row.{Row}
use Rattle.row.specs.Rows.{Lanes, row, ◌⊗₃₂◌, ◌⊘₃₂◌, ps1, ps3}
use Rattle.row.specs.Undone.{unps1, unps3, undo2, undo_by}
use Rattle.row.proofs.LaneLaws.{quotient_undoes, quotient_is}

-- rows with equal lanes are equal
pub same_row : {a b c d a' b' c' d' : ℕ} → a ≡ a' → b ≡ b' → c ≡ c' → d ≡ d' → row a b c d ≡ row a' b' c' d'
same_row p q r s = cc

-- what is added twice is gone
pub xor_twice : (a b c : ℕ) → bit_xor (bit_xor a b) (bit_xor b c) ≡ bit_xor a c
xor_twice a b c =
    xor_assoc a b (bit_xor b c)
    ∙ ap (bit_xor a) (sym (xor_assoc b b c) ∙ ap (λ t. bit_xor t c) (xor_self b) ∙ xor_zero_l c)

-- a step of shift i undoes one of shift i, and leaves one of shift i + i
pub step_twice : (a b c i : ℕ) → bit_xor (bit_xor a (b / 2 ^ i)) (bit_xor b (c / 2 ^ i) / 2 ^ i) ≡ bit_xor a (c / 2 ^ (i + i))
step_twice a b c i =
    ap (bit_xor (bit_xor a (b / 2 ^ i))) (xor_shr b (c / 2 ^ i) i ∙ ap (bit_xor (b / 2 ^ i)) (shr-shr c i i))
    ∙ xor_twice a (b / 2 ^ i) (c / 2 ^ (i + i))

pub rows_quotient_undoes : (y x : Row) → Lanes y → Lanes x → ((y ⊗₃₂ x) ⊘₃₂ x) ≡ y
rows_quotient_undoes y x hy hx =
    same_row
    (quotient_undoes y.l3 x.l3 hy.l3 hx.l3)
    (quotient_undoes y.l2 x.l2 hy.l2 hx.l2)
    (quotient_undoes y.l1 x.l1 hy.l1 hx.l1)
    (quotient_undoes y.l0 x.l0 hy.l0 hx.l0)

pub rows_quotient_is : (z x : Row) → Lanes z → Lanes x → ((z ⊘₃₂ x) ⊗₃₂ x) ≡ z
rows_quotient_is z x hz hx =
    same_row
    (quotient_is z.l3 x.l3 hz.l3 hx.l3)
    (quotient_is z.l2 x.l2 hz.l2 hx.l2)
    (quotient_is z.l1 x.l1 hz.l1 hx.l1)
    (quotient_is z.l0 x.l0 hz.l0 hx.l0)

-- ps3 is a step of shift 1, and each step taken twice is one of twice the shift
ps3_twice : (x : Row) → ps3 (ps3 x) ≡ undo2 x
unfolding ps3 undo2
ps3_twice x =
    same_row
    (step_twice x.l3 x.l0 x.l1 1)
    (step_twice x.l2 x.l3 x.l0 1)
    (step_twice x.l1 x.l2 x.l3 1)
    (step_twice x.l0 x.l1 x.l2 1)

undo2_twice : (x : Row) → undo2 (undo2 x) ≡ undo_by 4 x
unfolding undo2 undo_by
undo2_twice x =
    same_row
    (step_twice x.l3 x.l1 x.l3 2)
    (step_twice x.l2 x.l0 x.l2 2)
    (step_twice x.l1 x.l3 x.l1 2)
    (step_twice x.l0 x.l2 x.l0 2)

undo_by_twice : (s : ℕ) (x : Row) → undo_by s (undo_by s x) ≡ undo_by (s + s) x
unfolding undo_by
undo_by_twice s x =
    same_row
    (step_twice x.l3 x.l3 x.l3 s)
    (step_twice x.l2 x.l2 x.l2 s)
    (step_twice x.l1 x.l1 x.l1 s)
    (step_twice x.l0 x.l0 x.l0 s)

-- a shift by all the bits of a lane leaves nothing
xor_none : (a b : ℕ) → b ≡ 0 → bit_xor a b ≡ a
xor_none a b e = ap (bit_xor a) e ∙ xor_zero_r a

undo_by_all : (x : Row) → Lanes x → undo_by 32 x ≡ x
unfolding undo_by
undo_by_all x h =
    same_row
    (xor_none x.l3 (x.l3 / 2 ^ 32) (omega arith))
    (xor_none x.l2 (x.l2 / 2 ^ 32) (omega arith))
    (xor_none x.l1 (x.l1 / 2 ^ 32) (omega arith))
    (xor_none x.l0 (x.l0 / 2 ^ 32) (omega arith))

pub ps3_undone : (x : Row) → Lanes x → unps3 (ps3 x) ≡ x
unfolding unps3
ps3_undone x h =
    ap (λ r. undo_by 16 (undo_by 8 (undo_by 4 (undo2 r)))) (ps3_twice x)
    ∙ ap (λ r. undo_by 16 (undo_by 8 (undo_by 4 r))) (undo2_twice x)
    ∙ ap (λ r. undo_by 16 (undo_by 8 r)) (undo_by_twice 4 x)
    ∙ ap (undo_by 16) (undo_by_twice 8 x)
    ∙ undo_by_twice 16 x
    ∙ undo_by_all x h

-- a lane of unps1 (ps1 x)
ps1_lane : (a b c d : ℕ) → d < 2 ^ 32
    → bit_xor (bit_xor a (b / 2 ^ 13)) (bit_xor (bit_xor b (c / 2 ^ 13) / 2 ^ 13) (bit_xor c (d / 2 ^ 13) / 2 ^ 26)) ≡ a
ps1_lane a b c d h =
    ap (bit_xor (bit_xor a (b / 2 ^ 13)))
    (ap (λ t. bit_xor t (bit_xor c (d / 2 ^ 13) / 2 ^ 26)) (xor_shr b (c / 2 ^ 13) 13 ∙ ap (bit_xor (b / 2 ^ 13)) (shr-shr c 13 13))
    ∙ ap (bit_xor (bit_xor (b / 2 ^ 13) (c / 2 ^ 26))) (xor_shr c (d / 2 ^ 13) 26)
    ∙ xor_twice (b / 2 ^ 13) (c / 2 ^ 26) (d / 2 ^ 13 / 2 ^ 26))
    ∙ xor_twice a (b / 2 ^ 13) (d / 2 ^ 13 / 2 ^ 26)
    ∙ xor_none a (d / 2 ^ 13 / 2 ^ 26) (omega arith)

pub ps1_undone : (x : Row) → Lanes x → unps1 (ps1 x) ≡ x
unfolding ps1 unps1
ps1_undone x h =
    same_row
    (ps1_lane x.l3 x.l0 x.l1 x.l2 h.l2)
    (ps1_lane x.l2 x.l3 x.l0 x.l1 h.l1)
    (ps1_lane x.l1 x.l2 x.l3 x.l0 h.l0)
    (ps1_lane x.l0 x.l1 x.l2 x.l3 h.l3)

-- a lane of ps1 (unps1 x)
ps1_back : (a b c d : ℕ) → d < 2 ^ 32
    → bit_xor (bit_xor a (bit_xor (b / 2 ^ 13) (c / 2 ^ 26))) (bit_xor b (bit_xor (c / 2 ^ 13) (d / 2 ^ 26)) / 2 ^ 13) ≡ a
ps1_back a b c d h =
    ap (bit_xor (bit_xor a (bit_xor (b / 2 ^ 13) (c / 2 ^ 26))))
    (xor_shr b (bit_xor (c / 2 ^ 13) (d / 2 ^ 26)) 13
    ∙ ap (bit_xor (b / 2 ^ 13)) (xor_shr (c / 2 ^ 13) (d / 2 ^ 26) 13 ∙ ap (λ t. bit_xor t (d / 2 ^ 26 / 2 ^ 13)) (shr-shr c 13 13))
    ∙ sym (xor_assoc (b / 2 ^ 13) (c / 2 ^ 26) (d / 2 ^ 26 / 2 ^ 13)))
    ∙ xor_twice a (bit_xor (b / 2 ^ 13) (c / 2 ^ 26)) (d / 2 ^ 26 / 2 ^ 13)
    ∙ xor_none a (d / 2 ^ 26 / 2 ^ 13) (omega arith)

pub ps1_onto : (x : Row) → Lanes x → ps1 (unps1 x) ≡ x
unfolding ps1 unps1
ps1_onto x h =
    same_row
    (ps1_back x.l3 x.l0 x.l1 x.l2 h.l2)
    (ps1_back x.l2 x.l3 x.l0 x.l1 h.l1)
    (ps1_back x.l1 x.l2 x.l3 x.l0 h.l0)
    (ps1_back x.l0 x.l1 x.l2 x.l3 h.l3)

-- two steps can change places
xor_cross : (a b c d : ℕ) → bit_xor (bit_xor a b) (bit_xor c d) ≡ bit_xor (bit_xor a c) (bit_xor b d)
xor_cross a b c d =
    xor_assoc a b (bit_xor c d)
    ∙ ap (bit_xor a) (sym (xor_assoc b c d) ∙ ap (λ t. bit_xor t d) (xor_comm b c) ∙ xor_assoc c b d)
    ∙ sym (xor_assoc a c (bit_xor b d))

-- a, b: the lanes of one step, e, f: those of the other
steps_cross : (a b e f i j : ℕ)
    → bit_xor (bit_xor a (e / 2 ^ j)) (bit_xor b (f / 2 ^ j) / 2 ^ i) ≡ bit_xor (bit_xor a (b / 2 ^ i)) (bit_xor e (f / 2 ^ i) / 2 ^ j)
steps_cross a b e f i j =
    ap (bit_xor (bit_xor a (e / 2 ^ j))) (xor_shr b (f / 2 ^ j) i)
    ∙ xor_cross a (e / 2 ^ j) (b / 2 ^ i) (f / 2 ^ j / 2 ^ i)
    ∙ ap (λ t. bit_xor (bit_xor a (b / 2 ^ i)) (bit_xor (e / 2 ^ j) t)) (shr-shr f j i ∙ ap (λ k. f / 2 ^ k) (add_comm j i) ∙ sym (shr-shr f i j))
    ∙ ap (bit_xor (bit_xor a (b / 2 ^ i))) (sym (xor_shr e (f / 2 ^ i) j))

ps3_undo2 : (x : Row) → ps3 (undo2 x) ≡ undo2 (ps3 x)
unfolding ps3 undo2
ps3_undo2 x =
    same_row
    (steps_cross x.l3 x.l0 x.l1 x.l2 1 2)
    (steps_cross x.l2 x.l3 x.l0 x.l1 1 2)
    (steps_cross x.l1 x.l2 x.l3 x.l0 1 2)
    (steps_cross x.l0 x.l1 x.l2 x.l3 1 2)

ps3_undo_by : (s : ℕ) (x : Row) → ps3 (undo_by s x) ≡ undo_by s (ps3 x)
unfolding ps3 undo_by
ps3_undo_by s x =
    same_row
    (steps_cross x.l3 x.l0 x.l3 x.l0 1 s)
    (steps_cross x.l2 x.l3 x.l2 x.l3 1 s)
    (steps_cross x.l1 x.l2 x.l1 x.l2 1 s)
    (steps_cross x.l0 x.l1 x.l0 x.l1 1 s)

ps3_past : (x : Row) → ps3 (unps3 x) ≡ unps3 (ps3 x)
unfolding unps3
ps3_past x =
    ps3_undo_by 16 (undo_by 8 (undo_by 4 (undo2 (ps3 x))))
    ∙ ap (undo_by 16) (ps3_undo_by 8 (undo_by 4 (undo2 (ps3 x))))
    ∙ ap (λ r. undo_by 16 (undo_by 8 r)) (ps3_undo_by 4 (undo2 (ps3 x)))
    ∙ ap (λ r. undo_by 16 (undo_by 8 (undo_by 4 r))) (ps3_undo2 (ps3 x))

pub ps3_onto : (x : Row) → Lanes x → ps3 (unps3 x) ≡ x
ps3_onto x h = ps3_past x ∙ ps3_undone x h
