-- The keystream of a filter over the words of a generator.
use Rattle.std.specs.Prelude.{ℕ, zero, suc, ◌+◌, ◌*◌, ◌/◌, ◌%◌, List, slice_index}
use Rattle.mother.specs.Generators.{Words}
use Rattle.keystream.specs.declared.Filter.{Ghosts}

-- the memory after m words: y_0 is made from the start word, and y_(m+1) = f (y_m, w_m)
abbrev pub memory : {F W Y : Type 0} → Ghosts F W Y → Words W → ℕ → Y
memory f ws zero = f.first ws.start
memory f ws (suc m) = f.step (memory f ws m) (ws.word m)

-- which memory is the first of block i; the second is the next one
abbrev pub first_of : ℕ → ℕ
first_of i = 2 * i

-- the bytes of block i, as many as the filter's blocks have
abbrev pub block_bytes : {F W Y : Type 0} → Ghosts F W Y → Words W → ℕ → List ℕ
block_bytes f ws i = f.bytes (memory f ws (first_of i)) (memory f ws (first_of i + 1))

-- the keystream byte at position p
abbrev pub byte_at : {F W Y : Type 0} → Ghosts F W Y → Words W → ℕ → ℕ
byte_at f ws p = slice_index (block_bytes f ws (p / f.SIZE)) (p % f.SIZE)
