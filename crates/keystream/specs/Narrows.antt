-- The narrow filters: the memory is a 32-bit word, and two memories give a block of 2 bytes.
use Rattle.std.specs.Prelude.{ℕ, ◌/◌, ◌^◌, List, [], ◌∷◌}
use Rattle.row.specs.Lanes.{times, odd_factor}

-- f (y, x) of the narrow filter, the memory after the word x; that of the odd one is y ⊗ x
abbrev pub multiplied : ℕ → ℕ → ℕ
multiplied y x = times y (odd_factor x)

-- the top 8 bits of a memory, and the block of two of them, one after the other
abbrev pub top_byte : ℕ → ℕ
top_byte y = y / 2 ^ 24

abbrev pub top_bytes : ℕ → ℕ → List ℕ
top_bytes y y' = top_byte y ∷ top_byte y' ∷ []
