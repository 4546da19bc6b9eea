-- 156 rows in a ring, of which the oldest is at `head`, and its turns on and back.
use Rattle.std.specs.Prelude.{◌≡◌, ℕ, ◌+◌, ◌-◌, ◌<◌, ◌≤◌, List, length, slice_index_or, slice_set}
use Rattle.row.specs.declared.Row.{Row}
use Rattle.row.specs.Rows.{zeros, step_row}
use Rattle.row.specs.Undone.{unstep_row}
use Rattle.row.specs.Ring as ring
use Rattle.handover.specs.Recursion.{mask, x}

-- an index that may have passed the end once
abbrev pub wrap : ℕ → ℕ
wrap n = ring.wrap 156 n

-- the row k after the oldest
abbrev pub kth : List Row → ℕ → ℕ → Row
kth rows head k = slice_index_or rows (wrap (head + k)) zeros

-- the row that the recursion gives next, and the one before the oldest
abbrev pub newer : List Row → ℕ → Row
newer rows head = step_row mask (kth rows head 155) (kth rows head 108) (kth rows head 0)

abbrev pub older : List Row → ℕ → Row
older rows head = unstep_row mask (kth rows head 155) (kth rows head 154) (kth rows head 107)

-- the rows after a step on and after a step back
abbrev pub onwards : List Row → ℕ → List Row
onwards rows head = slice_set rows (wrap (head + 0)) (newer rows head)

abbrev pub backwards : List Row → ℕ → List Row
backwards rows head = slice_set rows (wrap (head + 155)) (older rows head)

-- a step back undoes a step on, and a step on a step back
abbrev pub StepThereAndBack : Type 0
StepThereAndBack = (rows : List Row) (head : ℕ) → length rows ≡ 156 → head < 156
    → (wrap (wrap (head + 1) + 155) ≡ head) × (backwards (onwards rows head) (wrap (head + 1)) ≡ rows)

abbrev pub StepBackAndThere : Type 0
StepBackAndThere = (rows : List Row) (head : ℕ) → length rows ≡ 156 → head < 156
    → (wrap (wrap (head + 155) + 1) ≡ head) × (onwards (backwards rows head) (wrap (head + 155)) ≡ rows)

-- the first `count` rows of the ring are x_first, x_(first+1), …
unfoldable pub Kept : (ℕ → Row) → List Row → ℕ → ℕ → ℕ → Type 0
Kept w rows head first count = (k : ℕ) → k < count → kth rows head k ≡ x w (first + k)

-- what the ring has at a place: below 156 the rows so far, and from there on x_place is its newest
pub record HeldAt (w : ℕ → Row) (rows : List Row) (head place : ℕ) : Type 0 where
  pub early : place < 156 → Kept w rows head 0 place
  pub late : 156 ≤ place → Kept w rows head (place - 155) 156
