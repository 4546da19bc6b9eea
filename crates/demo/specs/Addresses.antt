-- Addresses of 32 bits as bytes, four each, the low byte first.
use Rattle.std.specs.Prelude.{◌≡◌, ℕ, ◌%◌, List, [], ◌∷◌, length, count_by, flat_map, zip, ◌==◌}
use Rattle.row.specs.Bytes.{lane_bytes, lane_of, lane_at}

abbrev pub bytes_of : List ℕ → List ℕ
bytes_of addresses = flat_map lane_bytes addresses

-- the address that four bytes are
abbrev pub of_four : List ℕ → ℕ
of_four bytes = lane_at bytes 0

-- bytes past the last four are left out
abbrev pub addresses_of : List ℕ → List ℕ
addresses_of [] = []
addresses_of (a ∷ []) = []
addresses_of (a ∷ b ∷ []) = []
addresses_of (a ∷ b ∷ c ∷ []) = []
addresses_of (a ∷ b ∷ c ∷ d ∷ bs) = lane_of a b c d ∷ addresses_of bs

-- whole addresses are the same bytes again
abbrev pub BytesBack : List ℕ → List ℕ → Type 0
BytesBack bs xs = length bs % 4 ≡ 0 → bytes_of xs ≡ bs

-- how many addresses stand at the same place in both
abbrev pub agreed : List ℕ → List ℕ → ℕ
agreed xs ys = count_by (λ p. p.0 == p.1) (zip xs ys)
