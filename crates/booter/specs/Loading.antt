-- The register before step 0, from a key and an IV: the rows of the IV, the key, the IV and the key.
use Rattle.std.specs.Prelude.{ℕ, zero, suc, ◌+◌, ◌-◌, ◌*◌, ◌/◌, cond, List, length, replicate, nat_lt, slice_index_or, slice_set}
use Rattle.row.specs.declared.Row.{Row}
use Rattle.row.specs.Rows.{row, zeros, ◌+₃₂◌, odd}
use Rattle.row.specs.Bytes.{row_at}
use Rattle.std.specs.Simd.{first_chunks}
use Rattle.booter.specs.Registers.{State, state, wrap}

-- how many rows a key or an IV has, and its row i
abbrev pub count : List ℕ → ℕ
count bytes = length bytes / 16

abbrev pub row_of : List ℕ → ℕ → Row
row_of bytes i = row_at bytes (16 * i)

-- the bytes of each row
abbrev pub chunks : List ℕ → List (List ℕ)
chunks bytes = first_chunks 16 (count bytes) bytes

-- H, how many rows the register has
abbrev pub height : List ℕ → List ℕ → ℕ
height key iv = 2 * (count iv + count key)

-- row i of the IV and then the key
unfoldable pub once : List ℕ → List ℕ → ℕ → Row
once key iv i = cond (nat_lt i (count iv)) (row_of iv i) (row_of key (i - count iv))

-- and of both twice
unfoldable pub twice : List ℕ → List ℕ → ℕ → Row
twice key iv i = once key iv (wrap (count iv + count key) i)

-- the first n of 64 rows by f
abbrev pub filled : (ℕ → Row) → ℕ → List Row
filled f zero = replicate 64 zeros
filled f (suc n) = slice_set (filled f n) n (f n)

abbrev pub rows_given : List ℕ → List ℕ → List Row
rows_given key iv = filled (twice key iv) (height key iv)

-- the constant is added to the last row
abbrev pub constant : Row
constant = row 846264 979323 265358 314159

abbrev pub added : ℕ → List Row → List Row
added n rows = slice_set rows n (slice_index_or rows n zeros +₃₂ constant)

abbrev pub rows_loaded : List ℕ → List ℕ → List Row
rows_loaded key iv = added (height key iv - 1) (rows_given key iv)

-- the accumulator begins as row v, the key's first, with the lowest bit of each lane set
unfoldable pub loaded : List ℕ → List ℕ → State
loaded key iv = state (rows_loaded key iv) 0 (odd (slice_index_or (rows_loaded key iv) (count iv) zeros))
