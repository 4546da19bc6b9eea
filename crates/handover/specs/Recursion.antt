-- The rows x_0, x_1, … of the recursion, from the words of the generator below, and the words of the hand-over.
use Rattle.std.specs.Prelude.{◌≡◌, ℕ, zero, suc, ◌+◌, ◌<◌, cond, nat_lt}
use Rattle.row.specs.declared.Row.{Row}
use Rattle.row.specs.Rows.{row, ◌&◌, ◌⊕◌, ◌>>₆₄◌, at2031, at0321, step_row}
use Rattle.mother.specs.Generators.{Words}

abbrev pub mask : Row
mask = row 0xffdfafdf 0xf5dabfff 0xffdbffff 0xef7bffff

-- lane [3] replaced by the constant
abbrev pub marked : Row → Row
marked r = row 0x4d734e48 r.l2 r.l1 r.l0

abbrev pub seed : (ℕ → Row) → ℕ → Row
seed w zero = marked (w 0)
seed w (suc i) = w (suc i)

-- row k of x_j, x_(j+1), … , x_(j+155)
unfoldable pub window : (ℕ → Row) → ℕ → ℕ → Row
window w zero k = seed w k
window w (suc j) k =
    cond (nat_lt k 155) (window w j (suc k)) (step_row mask (window w j 155) (window w j 108) (window w j 0))

-- x_i, where w has the words below
unfoldable pub x : (ℕ → Row) → ℕ → Row
x w i = window w i 0

-- what fixes x
abbrev pub FirstRow : Type 0
FirstRow = (w : ℕ → Row) → x w 0 ≡ marked (w 0)

abbrev pub FirstRows : Type 0
FirstRows = (w : ℕ → Row) (i : ℕ) → 0 < i → i < 156 → x w i ≡ w i

abbrev pub LaterRows : Type 0
LaterRows = (w : ℕ → Row) (j : ℕ)
    → x w (156 + j) ≡ x w (155 + j) & mask ⊕ x w (108 + j) >>₆₄ 3 ⊕ at2031 (x w (108 + j)) ⊕ at0321 (x w j)

-- the words of the hand-over from those below: the first 156 as they are, and then the rows from x_157 on
abbrev pub later : (ℕ → Row) → ℕ → Row
later w i = cond (nat_lt i 156) (w i) (x w (i + 1))

abbrev pub over : Words Row → Words Row
over ws = record { start = ws.start; word = later ws.word }

abbrev pub WordsEarly : Type 0
WordsEarly = (ws : Words Row) (i : ℕ) → i < 156 → (over ws).word i ≡ ws.word i

abbrev pub WordsLate : Type 0
WordsLate = (ws : Words Row) (i : ℕ) → (over ws).word (156 + i) ≡ x ws.word (157 + i)
