-- Bytes under a keystream.
use Rattle.std.specs.Prelude.{ℕ, zero, suc, List, [], ◌∷◌, bit_xor}

-- each byte XOR the keystream byte of its position, the first at p
abbrev pub covered : (ℕ → ℕ) → ℕ → List ℕ → List ℕ
covered k p [] = []
covered k p (b ∷ bs) = bit_xor b (k p) ∷ covered k (suc p) bs

-- n bytes of the keystream from position p on
abbrev pub streamed : (ℕ → ℕ) → ℕ → ℕ → List ℕ
streamed k p zero = []
streamed k p (suc n) = k p ∷ streamed k (suc p) n

-- each byte XOR the key beside it; those beside no key are as they were
abbrev pub xored : List ℕ → List ℕ → List ℕ
xored [] ks = []
xored (b ∷ bs) [] = b ∷ bs
xored (b ∷ bs) (k ∷ ks) = bit_xor b k ∷ xored bs ks
