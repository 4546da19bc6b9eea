-- Rows of four lanes [3], [2], [1], [0], written in that order, and the operations of the cipher on them.
use Rattle.std.specs.Prelude.{ℕ, zero, suc, ◌+◌, ◌*◌, ◌/◌, ◌%◌, ◌^◌, ◌<◌, bit_and, bit_or, bit_xor}
use Rattle.row.specs.declared.Row.{Row}
use Rattle.row.specs.Lanes.{plus, minus, ◌⊗◌, ◌⊘◌}

infixl 65 ◌+₃₂◌ ◌-₃₂◌
infixl 70 ◌⊗₃₂◌ ◌⊘₃₂◌ ◌>>₃₂◌ ◌>>₆₄◌ ◌&◌
infixl 60 ◌⊕◌
-- each lane is below 2 ^ 32
pub record Lanes (x : Row) : Type 0 where
  pub l3 : x.l3 < 2 ^ 32
  pub l2 : x.l2 < 2 ^ 32
  pub l1 : x.l1 < 2 ^ 32
  pub l0 : x.l0 < 2 ^ 32

abbrev pub row : ℕ → ℕ → ℕ → ℕ → Row
row a b c d = record { l3 = a; l2 = b; l1 = c; l0 = d }

abbrev pub zeros : Row
zeros = row 0 0 0 0

-- lane [c], for c from 0 to 3
abbrev pub lane_in : Row → ℕ → ℕ
lane_in x zero = x.l0
lane_in x (suc zero) = x.l1
lane_in x (suc (suc zero)) = x.l2
lane_in x (suc (suc (suc c))) = x.l3

-- an operation of one lane, and of two, lane by lane
abbrev pub each : (ℕ → ℕ) → Row → Row
each f x = row (f x.l3) (f x.l2) (f x.l1) (f x.l0)

abbrev pub both : (ℕ → ℕ → ℕ) → Row → Row → Row
both f x y = row (f x.l3 y.l3) (f x.l2 y.l2) (f x.l1 y.l1) (f x.l0 y.l0)

-- the sum, the difference, the odd product and the odd quotient of each two lanes; exclusive or, and
abbrev pub ◌+₃₂◌ : Row → Row → Row
x +₃₂ y = both plus x y

abbrev pub ◌-₃₂◌ : Row → Row → Row
x -₃₂ y = both minus x y

abbrev pub ◌⊗₃₂◌ : Row → Row → Row
x ⊗₃₂ y = both ◌⊗◌ x y

abbrev pub ◌⊘₃₂◌ : Row → Row → Row
x ⊘₃₂ y = both ◌⊘◌ x y

abbrev pub ◌⊕◌ : Row → Row → Row
x ⊕ y = both bit_xor x y

abbrev pub ◌&◌ : Row → Row → Row
x & y = both bit_and x y

-- the lowest bit of each lane set
abbrev pub odd : Row → Row
odd x = each (λ a. bit_or a 1) x

-- each lane shifted right
abbrev pub ◌>>₃₂◌ : Row → ℕ → Row
x >>₃₂ s = each (λ a. a / 2 ^ s) x

-- the pairs [3][2] and [1][0], each a number of 64 bits, shifted right
abbrev pub pair : ℕ → ℕ → ℕ
pair hi lo = hi * 2 ^ 32 + lo

unfoldable pub ◌>>₆₄◌ : Row → ℕ → Row
◌>>₆₄◌ x s =
    row
    (pair x.l3 x.l2 / 2 ^ s / 2 ^ 32)
    (pair x.l3 x.l2 / 2 ^ s % 2 ^ 32)
    (pair x.l1 x.l0 / 2 ^ s / 2 ^ 32)
    (pair x.l1 x.l0 / 2 ^ s % 2 ^ 32)

-- x[a][b][c][d], the row whose lanes [3] to [0] are lanes a, b, c, d of x, is `atabcd x`
abbrev pub at2103 : Row → Row
at2103 x = row x.l2 x.l1 x.l0 x.l3

abbrev pub at1023 : Row → Row
at1023 x = row x.l1 x.l0 x.l2 x.l3

abbrev pub at0321 : Row → Row
at0321 x = row x.l0 x.l3 x.l2 x.l1

abbrev pub at2031 : Row → Row
at2031 x = row x.l2 x.l0 x.l3 x.l1

abbrev pub at1032 : Row → Row
at1032 x = row x.l1 x.l0 x.l3 x.l2

-- the perm-shifts: a permutation of the lanes beside a shift
unfoldable pub ps1 : Row → Row
ps1 x = at2103 x ⊕ x >>₃₂ 13

unfoldable pub ps2 : Row → Row
ps2 x = at1023 x ⊕ x >>₃₂ 11

unfoldable pub ps3 : Row → Row
ps3 x = x ⊕ at0321 x >>₃₂ 1

-- the recursion without its oldest row: (prev & mask) ⊕ (m >>64 3) ⊕ m[2][0][3][1]
unfoldable pub mix_row : Row → Row → Row → Row
mix_row mask prev m = prev & mask ⊕ m >>₆₄ 3 ⊕ at2031 m

-- a row of the recursion from the rows 1, 48 and 156 before it
unfoldable pub step_row : Row → Row → Row → Row → Row
step_row mask prev m oldest = mix_row mask prev m ⊕ at0321 oldest
