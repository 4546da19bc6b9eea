-- A row as 16 bytes: lane [0] first, and the low byte of a lane first.
use Rattle.std.specs.Prelude.{◌≡◌, ℕ, ◌+◌, ◌*◌, ◌/◌, ◌%◌, ◌<◌, cond, List, [], ◌∷◌, ◌++◌, length, Some, None, Option, nat_le, slice_index}
use Rattle.row.specs.declared.Row.{Row}
use Rattle.row.specs.Rows.{Lanes, row}

abbrev pub lane_bytes : ℕ → List ℕ
lane_bytes x = (x % 256) ∷ (x / 256 % 256) ∷ (x / 65536 % 256) ∷ (x / 16777216 % 256) ∷ []

abbrev pub lane_of : ℕ → ℕ → ℕ → ℕ → ℕ
lane_of a b c d = a + b * 256 + c * 65536 + d * 16777216

abbrev pub lane_at : List ℕ → ℕ → ℕ
lane_at bs i = lane_of (slice_index bs i) (slice_index bs (i + 1)) (slice_index bs (i + 2)) (slice_index bs (i + 3))

unfoldable pub row_bytes : Row → List ℕ
row_bytes x = lane_bytes x.l0 ++ (lane_bytes x.l1 ++ (lane_bytes x.l2 ++ lane_bytes x.l3))

-- the row at the first 16 bytes, and at the 16 from i on
unfoldable pub bytes_row : List ℕ → Row
bytes_row bs = row (lane_at bs 12) (lane_at bs 8) (lane_at bs 4) (lane_at bs 0)

unfoldable pub row_at : List ℕ → ℕ → Row
row_at bs i = row (lane_at bs (i + 12)) (lane_at bs (i + 8)) (lane_at bs (i + 4)) (lane_at bs i)

-- and nothing where there are fewer
abbrev pub read_at : List ℕ → ℕ → Option Row
read_at bs i = cond (nat_le (i + 16) (length bs)) (Some (row_at bs i)) None

abbrev pub RowFromBytes : Type 0
RowFromBytes = (x : Row) → Lanes x → bytes_row (row_bytes x) ≡ x

abbrev pub BytesFromRow : Type 0
BytesFromRow = (bs : List ℕ) → length bs ≡ 16 → ((k : ℕ) → slice_index bs k < 256) → row_bytes (bytes_row bs) ≡ bs
