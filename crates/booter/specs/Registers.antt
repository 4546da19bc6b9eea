-- A register of H rows with its accumulator, and its step both ways. The rows stand in a ring: the oldest is at `head`.
use Rattle.std.specs.Prelude.{◌≡◌, ℕ, zero, suc, ◌+◌, ◌-◌, ◌<◌, ◌≤◌, List, length, slice_index_or, slice_set}
use Rattle.row.specs.declared.Row.{Row}
use Rattle.row.specs.Rows.{Lanes, zeros, ◌+₃₂◌, ◌-₃₂◌, ◌⊗₃₂◌, ◌⊘₃₂◌, ps1, ps2}
use Rattle.row.specs.Undone.{unps1}
unfoldable pub use Rattle.row.specs.Ring.{wrap}

pub record State : Type 0 where
  pub rows : List Row
  pub head : ℕ
  pub accumulator : Row

abbrev pub state : List Row → ℕ → Row → State
state rows head accumulator = record { rows = rows; head = head; accumulator = accumulator }

-- the row k after the oldest: x_(j+k) before step j
abbrev pub kth : ℕ → State → ℕ → Row
kth H s k = slice_index_or s.rows (wrap H (s.head + k)) zeros

-- step j: the output o_j, the accumulator a_j and the row fed back x_(H+j), which goes over x_j
unfoldable pub output : ℕ → State → Row
output H s = kth H s 0 +₃₂ kth H s (H - 2)

unfoldable pub turned : ℕ → State → Row
turned H s = s.accumulator ⊗₃₂ ps2 (kth H s (H - 1))

unfoldable pub fed : ℕ → State → Row
fed H s = ps1 (output H s) -₃₂ turned H s

unfoldable pub onward : ℕ → State → State
onward H s = state (slice_set s.rows s.head (fed H s)) (wrap H (s.head + 1)) (turned H s)

-- the step before step j undone: o_(j-1), x_(j-1) and a_(j-2) from the row fed back x_(H+j-1) and a_(j-1)
unfoldable pub output_before : ℕ → State → Row
output_before H s = unps1 (kth H s (H - 1) +₃₂ s.accumulator)

unfoldable pub oldest_before : ℕ → State → Row
oldest_before H s = output_before H s -₃₂ kth H s (H - 3)

unfoldable pub turned_before : ℕ → State → Row
turned_before H s = s.accumulator ⊘₃₂ ps2 (kth H s (H - 2))

-- the index of the newest row, where the oldest was before
abbrev pub last : ℕ → State → ℕ
last H s = wrap H (s.head + (H - 1))

unfoldable pub backward : ℕ → State → State
backward H s = state (slice_set s.rows (last H s) (oldest_before H s)) (last H s) (turned_before H s)

-- n steps on, and n steps back
abbrev pub ahead : ℕ → ℕ → State → State
ahead H zero s = s
ahead H (suc n) s = onward H (ahead H n s)

abbrev pub behind : ℕ → ℕ → State → State
behind H zero s = s
behind H (suc n) s = behind H n (backward H s)

-- what stands in a register before step 0, and what its steps give: x_j, a_j and o_j
unfoldable pub x_from : ℕ → State → ℕ → Row
x_from H s j = kth H (ahead H j s) 0

unfoldable pub a_from : ℕ → State → ℕ → Row
a_from H s j = (ahead H (suc j) s).accumulator

unfoldable pub o_from : ℕ → State → ℕ → Row
o_from H s j = output H (ahead H j s)

-- the indices are in range
pub record InRange (H : ℕ) (s : State) : Type 0 where
  pub head : s.head < H
  pub least : 4 ≤ H
  pub full : H ≤ length s.rows

-- and each lane is below 2 ^ 32
pub record Sound (H : ℕ) (s : State) : Type 0 where
  pub range : InRange H s
  pub rows : (k : ℕ) → k < H → Lanes (kth H s k)
  pub accumulator : Lanes s.accumulator

-- a step back undoes a step on and gives its pair of rows, and a step on undoes a step back and gives its pair
abbrev pub StepThereAndBack : Type 0
StepThereAndBack = (H : ℕ) (s : State) → Sound H s
    → (backward H (onward H s) ≡ s)
    × (output_before H (onward H s) ≡ output H s)
    × (kth H (onward H s) (H - 1) ≡ fed H s)

abbrev pub StepBackAndThere : Type 0
StepBackAndThere = (H : ℕ) (s : State) → Sound H s
    → (onward H (backward H s) ≡ s)
    × (output H (backward H s) ≡ output_before H s)
    × (fed H (backward H s) ≡ kth H s (H - 1))
