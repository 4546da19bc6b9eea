-- Rows and their bytes, there and back.
use Rattle.std.proofs.Common.{◌≡◌, ℕ, zero, suc, ◌+◌, ◌*◌, ◌/◌, ◌%◌, ◌^◌, ◌<◌, List, [], ◌∷◌, ◌++◌, length, get_or, sym, refl, ap, ◌∙◌, arith}
use Rattle.std.proofs.lemmas.Nat.{shr-shr}
use Rattle.row.specs.declared.Row.{Row}
use Rattle.row.specs.Bytes.{lane_bytes, lane_of, lane_at, row_at, row_bytes, bytes_row, RowFromBytes, BytesFromRow}
use Rattle.std.proofs.Common.{drop-cons, ◌≤◌, ◌-◌, take, drop}
use Rattle.std.proofs.lemmas.List.{get_or-take, get_or-drop}
use Rattle.std.specs.List.{slice_range}
use Rattle.std.proofs.lemmas.Simd.{Each1-from_get_or, get_or_wider, get_or_narrower}
use Rattle.std.proofs.Math.Nat.{div-one}
use lib.Lanes.{Each1, chunk, digits_l, number_l}
use Rattle.row.specs.Rows.{Lanes}
use Rattle.row.specs.Vectors.{lanes, lanes_row}
use Rattle.row.proofs.RowLaws.{same_row}

lane_nested : (x : ℕ) → x < 2 ^ 32 → lane_of (x % 256) (x / 256 % 256) (x / 256 / 256 % 256) (x / 256 / 256 / 256 % 256) ≡ x
lane_nested x h = omega arith

lane_back : (x : ℕ) → x < 2 ^ 32 → lane_of (x % 256) (x / 256 % 256) (x / 65536 % 256) (x / 16777216 % 256) ≡ x
lane_back x h =
    ap (λ t. lane_of (x % 256) (x / 256 % 256) (t % 256) (x / 16777216 % 256)) (sym (shr-shr x 8 8))
    ∙ ap (λ t. lane_of (x % 256) (x / 256 % 256) (x / 256 / 256 % 256) (t % 256)) (sym (shr-shr x 16 8) ∙ ap (λ t. t / 256) (sym (shr-shr x 8 8)))
    ∙ lane_nested x h

pub row_from_bytes : RowFromBytes
unfolding row_bytes bytes_row
row_from_bytes x h =
    same_row (lane_back x.l3 h.l3) (lane_back x.l2 h.l2) (lane_back x.l1 h.l1) (lane_back x.l0 h.l0)

low : (b c d : ℕ) → b < 256 → (b + c * 256 + d * 65536) % 256 ≡ b
low b c d h = omega arith

bytes_back : (a b c d : ℕ) → a < 256 → b < 256 → c < 256 → d < 256 → lane_bytes (lane_of a b c d) ≡ a ∷ b ∷ c ∷ d ∷ []
bytes_back a b c d ha hb hc hd =
    let p : lane_of a b c d % 256 ≡ a = omega arith in
    let e : lane_of a b c d / 256 ≡ b + c * 256 + d * 65536 = omega arith in
    let f : lane_of a b c d / 65536 ≡ c + d * 256 = omega arith in
    let g : lane_of a b c d / 16777216 ≡ d = omega arith in
    let q : lane_of a b c d / 256 % 256 ≡ b = ap (λ t. t % 256) e ∙ low b c d hb in
    let r : lane_of a b c d / 65536 % 256 ≡ c = ap (λ t. t % 256) f ∙ omega arith in
    let s : lane_of a b c d / 16777216 % 256 ≡ d = ap (λ t. t % 256) g ∙ omega arith in
    cc (p, q, r, s)

-- a list of n elements is written out by its elements
abbrev spelled : ℕ → ℕ → List ℕ → List ℕ
spelled zero i bs = []
spelled (suc n) i bs = get_or bs i 0 ∷ spelled n (suc i) bs

spelled_cons : (n i x : ℕ) (bs : List ℕ) → spelled n (suc i) (x ∷ bs) ≡ spelled n i bs
spelled_cons zero i x bs = refl
spelled_cons (suc n) i x bs = ap (λ t. get_or bs i 0 ∷ t) (spelled_cons n (suc i) x bs)

spelled_all : (n : ℕ) (bs : List ℕ) → length bs ≡ n → spelled n 0 bs ≡ bs
spelled_all zero [] h = refl
spelled_all (suc n) [] h = absurd (omega arith)
spelled_all zero (x ∷ bs) h = absurd (omega arith)
spelled_all (suc n) (x ∷ bs) h = ap (λ t. x ∷ t) (spelled_cons n 0 x bs ∙ spelled_all n bs (omega arith))

lane_bytes_at : (bs : List ℕ) (i : ℕ) → ((k : ℕ) → get_or bs k 0 < 256)
    → lane_bytes (lane_at bs i) ≡ get_or bs i 0 ∷ get_or bs (i + 1) 0 ∷ get_or bs (i + 2) 0 ∷ get_or bs (i + 3) 0 ∷ []
lane_bytes_at bs i h = bytes_back _ _ _ _ (h i) (h (i + 1)) (h (i + 2)) (h (i + 3))

pub bytes_from_row : BytesFromRow
unfolding row_bytes bytes_row
bytes_from_row bs long h =
    ap (λ t. t ++ (lane_bytes (lane_at bs 4) ++ (lane_bytes (lane_at bs 8) ++ lane_bytes (lane_at bs 12)))) (lane_bytes_at bs 0 h)
    ∙ ap (λ t. get_or bs 0 0 ∷ get_or bs 1 0 ∷ get_or bs 2 0 ∷ get_or bs 3 0 ∷ (t ++ (lane_bytes (lane_at bs 8) ++ lane_bytes (lane_at bs 12)))) (lane_bytes_at bs 4 h)
    ∙ ap (λ t. spelled 8 0 bs ++ (t ++ lane_bytes (lane_at bs 12))) (lane_bytes_at bs 8 h)
    ∙ ap (λ t. spelled 12 0 bs ++ t) (lane_bytes_at bs 12 h)
    ∙ spelled_all 16 bs long

-- what is laid out from the bytes of each lane
pub laid : (a b c d : List ℕ) (x : Row) → a ≡ lane_bytes x.l0 → b ≡ lane_bytes x.l1 → c ≡ lane_bytes x.l2 → d ≡ lane_bytes x.l3
    → get_or a 0 0 ∷ get_or a 1 0 ∷ get_or a 2 0 ∷ get_or a 3 0 ∷ get_or b 0 0 ∷ get_or b 1 0 ∷ get_or b 2 0 ∷ get_or b 3 0
    ∷ get_or c 0 0 ∷ get_or c 1 0 ∷ get_or c 2 0 ∷ get_or c 3 0 ∷ get_or d 0 0 ∷ get_or d 1 0 ∷ get_or d 2 0 ∷ get_or d 3 0 ∷ [] ≡ row_bytes x
unfolding row_bytes
laid a b c d x p q r s = rw (p, q, r, s)

-- n elements from i on are written out by its elements
chunk_spelled : (n i : ℕ) (bs : List ℕ) → i + n ≤ length bs → chunk i n bs ≡ spelled n i bs
chunk_spelled zero i bs h = refl
chunk_spelled (suc n) i bs h = rw (drop-cons bs i 0 (omega arith)) (ap (λ t. get_or bs i 0 ∷ t) (chunk_spelled n (suc i) bs (omega arith)))

-- four bytes as a number, the low byte first
number_of_four : (bs : List ℕ) (i : ℕ) → i + 4 ≤ length bs → number_l 256 (chunk i 4 bs) ≡ lane_at bs i
number_of_four bs i h =
    let same : (k j : ℕ) → k ≡ j → get_or bs k 0 ≡ get_or bs j 0 = λ k j e. ap (λ n. get_or bs n 0) e in
    ap (number_l 256) (chunk_spelled 4 i bs h)
    ∙ omega (arith, same (suc i) (i + 1) (omega arith), same (suc (suc i)) (i + 2) (omega arith), same (suc (suc (suc i))) (i + 3) (omega arith))

-- the lanes that 16 bytes are
pub lanes_of_bytes : (bs : List ℕ) → length bs ≡ 16 → ((k : ℕ) → get_or bs k 0 < 256)
    → lanes_row (digits_l (2 ^ 32) 4 (number_l 256 bs)) ≡ bytes_row bs
unfolding bytes_row
lanes_of_bytes bs long h =
    let bytes : Each1 (λ x. x < 256) bs = Each1-from_get_or _ bs 0 (λ i _. h i) in
    let at : (j : ℕ) → j < 4 → get_or (digits_l (2 ^ 32) 4 (number_l 256 bs)) j 0 ≡ lane_at bs (4 * j) =
    λ j l. get_or_wider 256 4 (2 ^ 32) 4 bs j refl bytes l ∙ number_of_four bs (4 * j) (omega arith) in
    same_row (at 3 (omega arith)) (at 2 (omega arith)) (at 1 (omega arith)) (at 0 (omega arith))

abbrev four_at : List ℕ → ℕ → List ℕ
four_at bs i = get_or bs (i + 0) 0 ∷ get_or bs (i + 1) 0 ∷ get_or bs (i + 2) 0 ∷ get_or bs (i + 3) 0 ∷ []

four : (a b c d x : ℕ) → a ≡ x / 1 % 256 → b ≡ x / 256 % 256 → c ≡ x / 65536 % 256 → d ≡ x / 16777216 % 256
    → a ∷ b ∷ c ∷ d ∷ [] ≡ lane_bytes x
four a b c d x p q r s = let o : x / 1 ≡ x = div-one x in rw (p, q, r, s, o)

-- the bytes that four lanes are
pub bytes_of_lanes : (x : Row) → Lanes x → digits_l 256 16 (number_l (2 ^ 32) (lanes x)) ≡ row_bytes x
bytes_of_lanes x h =
    let fit : Each1 (λ n. n < 2 ^ 32) (lanes x) = (h.l0, (h.l1, (h.l2, (h.l3, tt)))) in
    let at : (j i : ℕ) → j < 4 → i < 4
    → get_or (digits_l 256 16 (number_l (2 ^ 32) (lanes x))) (4 * j + i) 0 ≡ get_or (lanes x) j 0 / 256 ^ i % 256 =
    λ j i l m. get_or_narrower (2 ^ 32) 4 256 16 (lanes x) j i refl fit m (omega arith) in
    let lane : (j : ℕ) → j < 4 → four_at (digits_l 256 16 (number_l (2 ^ 32) (lanes x))) (4 * j) ≡ lane_bytes (get_or (lanes x) j 0) =
    λ j l. four _ _ _ _ _ (at j 0 l (omega arith)) (at j 1 l (omega arith)) (at j 2 l (omega arith)) (at j 3 l (omega arith)) in
    laid _ _ _ _ x (lane 0 (omega arith)) (lane 1 (omega arith)) (lane 2 (omega arith)) (lane 3 (omega arith))

-- the row at i, from the 16 bytes there
lane_within : (bs cs : List ℕ) (i k m : ℕ) → ((j n : ℕ) → j < 16 → n ≡ i + j → get_or cs j 0 ≡ get_or bs n 0) → k + 4 ≤ 16 → m ≡ i + k
    → lane_at cs k ≡ lane_at bs m
lane_within bs cs i k m h l e =
    let a = h k m (omega arith) (omega arith) in
    let b = h (k + 1) (m + 1) (omega arith) (omega arith) in
    let c = h (k + 2) (m + 2) (omega arith) (omega arith) in
    let d = h (k + 3) (m + 3) (omega arith) (omega arith) in
    rw (a, b, c, d)

pub row_within : (bs rest cs : List ℕ) (i : ℕ) → rest ≡ slice_range bs i (length bs) → 16 ≤ length rest → i + length rest ≡ length bs
    → cs ≡ take 16 rest → bytes_row cs ≡ row_at bs i
unfolding bytes_row row_at
row_within bs rest cs i r few l e =
    let at : (j n : ℕ) → j < 16 → n ≡ i + j → get_or cs j 0 ≡ get_or bs n 0 =
    λ j n m q.
    ap (λ t. get_or t j 0) e
    ∙ get_or-take 16 rest j 0 m
    ∙ ap (λ t. get_or t j 0) r
    ∙ get_or-take (length bs - i) (drop i bs) j 0 (omega arith)
    ∙ get_or-drop i bs j 0
    ∙ ap (λ t. get_or bs t 0) (sym q) in
    same_row (lane_within bs cs i 12 (i + 12) at (omega arith) refl) (lane_within bs cs i 8 (i + 8) at (omega arith) refl)
    (lane_within bs cs i 4 (i + 4) at (omega arith) refl) (lane_within bs cs i 0 i at (omega arith) (omega arith))
