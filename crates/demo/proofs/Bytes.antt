-- Addresses and their bytes, there and back.
use Rattle.std.proofs.Common.{◌≡◌, ℕ, suc, ◌+◌, ◌*◌, ◌/◌, ◌%◌, ◌^◌, ◌<◌, List, [], ◌∷◌, ◌++◌, map, length, get_or, sym, refl, ap, ◌∙◌, arith}
use Rattle.std.proofs.lemmas.Nat.{shr-shr}
use Rattle.std.specs.Simd.{first_chunks}
use Rattle.row.specs.Bytes.{lane_bytes, lane_of}
use Rattle.demo.specs.Addresses.{bytes_of, of_four, addresses_of, BytesBack}

nested : (x : ℕ) → x < 2 ^ 32 → lane_of (x % 256) (x / 256 % 256) (x / 256 / 256 % 256) (x / 256 / 256 / 256 % 256) ≡ x
nested x h = omega arith

address_back : (x : ℕ) → x < 2 ^ 32 → lane_of (x % 256) (x / 256 % 256) (x / 65536 % 256) (x / 16777216 % 256) ≡ x
address_back x h =
    ap (λ t. lane_of (x % 256) (x / 256 % 256) (t % 256) (x / 16777216 % 256)) (sym (shr-shr x 8 8))
    ∙ ap (λ t. lane_of (x % 256) (x / 256 % 256) (x / 256 / 256 % 256) (t % 256))
    (sym (shr-shr x 16 8) ∙ ap (λ t. t / 256) (sym (shr-shr x 8 8)))
    ∙ nested x h

pub addresses_back : (xs : List ℕ) → ((k : ℕ) → get_or xs k 0 < 2 ^ 32) → addresses_of (bytes_of xs) ≡ xs
addresses_back [] h = refl
addresses_back (x ∷ xs) h =
    let p = address_back x (h 0) in
    let q = addresses_back xs (λ k. h (suc k)) in
    cc (p, q)

low : (b c d : ℕ) → b < 256 → (b + c * 256 + d * 65536) % 256 ≡ b
low b c d h = omega arith

four_back : (a b c d : ℕ) → a < 256 → b < 256 → c < 256 → d < 256 → lane_bytes (lane_of a b c d) ≡ a ∷ b ∷ c ∷ d ∷ []
four_back a b c d ha hb hc hd =
    let p : lane_of a b c d % 256 ≡ a = omega arith in
    let e : lane_of a b c d / 256 ≡ b + c * 256 + d * 65536 = omega arith in
    let f : lane_of a b c d / 65536 ≡ c + d * 256 = omega arith in
    let g : lane_of a b c d / 16777216 ≡ d = omega arith in
    let q : lane_of a b c d / 256 % 256 ≡ b = ap (λ t. t % 256) e ∙ low b c d hb in
    let r : lane_of a b c d / 65536 % 256 ≡ c = ap (λ t. t % 256) f ∙ omega arith in
    let s : lane_of a b c d / 16777216 % 256 ≡ d = ap (λ t. t % 256) g ∙ omega arith in
    cc (p, q, r, s)

pub bytes_back : (bs : List ℕ) → ((k : ℕ) → get_or bs k 0 < 256) → BytesBack bs (addresses_of bs)
bytes_back [] h m = refl
bytes_back (a ∷ []) h m = absurd (omega arith)
bytes_back (a ∷ b ∷ []) h m = absurd (omega arith)
bytes_back (a ∷ b ∷ c ∷ []) h m = absurd (omega arith)
bytes_back (a ∷ b ∷ c ∷ d ∷ bs) h m =
    ap (λ t. t ++ bytes_of (addresses_of bs)) (four_back a b c d (h 0) (h 1) (h 2) (h 3))
    ∙ ap (λ t. a ∷ b ∷ c ∷ d ∷ t) (bytes_back bs (λ k. h (suc (suc (suc (suc k))))) (omega arith))

pub of_fours : (bs : List ℕ) → map of_four (first_chunks 4 (length bs / 4) bs) ≡ addresses_of bs
of_fours [] = refl
of_fours (a ∷ []) = refl
of_fours (a ∷ b ∷ []) = refl
of_fours (a ∷ b ∷ c ∷ []) = refl
of_fours (a ∷ b ∷ c ∷ d ∷ bs) =
    let e : suc (suc (suc (suc (length bs)))) / 4 ≡ suc (length bs / 4) = omega arith in
    ap (λ k. map of_four (first_chunks 4 k (a ∷ b ∷ c ∷ d ∷ bs))) e ∙ ap (λ t. lane_of a b c d ∷ t) (of_fours bs)
