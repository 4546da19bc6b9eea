-- Bytes under a keystream, by their lists.
use Rattle.std.proofs.Common.{◌≡◌, ℕ, zero, suc, ◌+◌, ◌-◌, ◌<◌, ◌≤◌, min, drop-drop, List, [], ◌∷◌, ◌++◌, length, get_or, set, take, drop, sym, refl, ap, ◌∙◌, zero-add, arith}
use lib.Bits.{bit_xor, xor_zero_l}
use lib.ListN.{replicate}
use Rattle.std.proofs.lemmas.List.{take-append-drop, drop-take}
use Rattle.cover.specs.Lists.{covered, streamed, xored}

-- keys more than bytes
pub xored_none : (bs : List ℕ) → xored bs [] ≡ bs
xored_none [] = refl
xored_none (b ∷ bs) = refl

pub xored_take : (bs ks : List ℕ) (n : ℕ) → length bs ≤ n → xored bs (take n ks) ≡ xored bs ks
xored_take [] ks n h = refl
xored_take (b ∷ bs) ks zero h = absurd (omega arith)
xored_take (b ∷ bs) [] (suc n) h = refl
xored_take (b ∷ bs) (k ∷ ks) (suc n) h = ap (λ t. bit_xor b k ∷ t) (xored_take bs ks n (omega arith))

-- one key more
pub xored_more : (bs ks : List ℕ) (i : ℕ) → i < length bs → i < length ks
    → set (xored bs (take i ks)) i (bit_xor (get_or (xored bs (take i ks)) i 0) (get_or ks i 0)) ≡ xored bs (take (suc i) ks)
xored_more [] ks i h l = absurd (omega arith)
xored_more (b ∷ bs) [] i h l = absurd (omega arith)
xored_more (b ∷ bs) (k ∷ ks) zero h l = ap (λ t. bit_xor b k ∷ t) (sym (xored_none bs))
xored_more (b ∷ bs) (k ∷ ks) (suc i) h l = ap (λ t. bit_xor b k ∷ t) (xored_more bs ks i (omega arith) (omega arith))

-- n keys of the keystream cover the first n bytes
pub xored_streamed : (K : ℕ → ℕ) (p n : ℕ) (bs : List ℕ) → xored bs (streamed K p n) ≡ covered K p (take n bs) ++ drop n bs
xored_streamed K p zero bs = xored_none bs
xored_streamed K p (suc n) [] = refl
xored_streamed K p (suc n) (b ∷ bs) = ap (λ t. bit_xor b (K p) ∷ t) (xored_streamed K (suc p) n bs)

pub length_streamed : (K : ℕ → ℕ) (p n : ℕ) → length (streamed K p n) ≡ n
length_streamed K p zero = refl
length_streamed K p (suc n) = ap suc (length_streamed K (suc p) n)

-- a part of the keystream
pub drop-streamed : (K : ℕ → ℕ) (p n k : ℕ) → drop k (streamed K p n) ≡ streamed K (p + k) (n - k)
drop-streamed K p n zero =
    let e : p ≡ p + 0 = omega arith in
    let f : n ≡ n - 0 = omega arith in
    ap (λ q. streamed K q n) e ∙ ap (streamed K (p + 0)) f
drop-streamed K p zero (suc k) = let f : 0 ≡ 0 - suc k = omega arith in ap (streamed K (p + suc k)) f
drop-streamed K p (suc n) (suc k) =
    let e : suc p + k ≡ p + suc k = omega arith in
    let f : n - k ≡ suc n - suc k = omega arith in
    drop-streamed K (suc p) n k ∙ ap (λ q. streamed K q (n - k)) e ∙ ap (streamed K (p + suc k)) f

pub length_covered : (K : ℕ → ℕ) (p : ℕ) (bs : List ℕ) → length (covered K p bs) ≡ length bs
length_covered K p [] = refl
length_covered K p (b ∷ bs) = ap suc (length_covered K (suc p) bs)

pub covered-append : (K : ℕ → ℕ) (p : ℕ) (xs ys : List ℕ) → covered K p (xs ++ ys) ≡ covered K p xs ++ covered K (p + length xs) ys
covered-append K p [] ys = let e : p ≡ p + 0 = omega arith in ap (λ q. covered K q ys) e
covered-append K p (x ∷ xs) ys =
    let e : suc p + length xs ≡ p + suc (length xs) = omega arith in
    ap (λ t. bit_xor x (K p) ∷ t) (covered-append K (suc p) xs ys ∙ ap (λ q. covered K (suc p) xs ++ covered K q ys) e)

-- zeros under the keystream are the keystream
pub covered_zeros : (k : ℕ → ℕ) (p n : ℕ) → covered k p (replicate n 0) ≡ streamed k p n
covered_zeros k p zero = refl
covered_zeros k p (suc n) = ap (λ b. b ∷ covered k (suc p) (replicate n 0)) (xor_zero_l (k p)) ∙ ap (λ t. k p ∷ t) (covered_zeros k (suc p) n)

pub none_streamed : (k : ℕ → ℕ) (p : ℕ) (bs : List ℕ) → length bs ≡ 0 → bs ≡ streamed k p (length bs)
none_streamed k p [] e = refl
none_streamed k p (b ∷ bs) e = absurd (omega arith)

-- what is covered over a cleared buffer
pub streamed_over : (k k' : ℕ → ℕ) (p n : ℕ) (old new : List ℕ) → k ≡ k' → old ≡ replicate n 0 → new ≡ covered k (0 + p) old → new ≡ streamed k' p n
streamed_over k k' p n old new same zeros e =
    e ∙ ap (λ t. covered k t old) (zero-add p) ∙ ap (covered k p) zeros ∙ covered_zeros k p n ∙ ap (λ t. streamed t p n) same

-- with as many bytes covered as there are keys beside
pub xored_front : (n : ℕ) (bs ks : List ℕ) → min (length bs) (length ks) ≤ n → xored (take n bs) ks ++ drop n bs ≡ xored bs ks
xored_front zero [] ks h = refl
xored_front zero (b ∷ bs) [] h = refl
xored_front zero (b ∷ bs) (k ∷ ks) h = absurd (omega arith)
xored_front (suc n) [] ks h = refl
xored_front (suc n) (b ∷ bs) [] h = ap (λ t. b ∷ t) (take-append-drop n bs)
xored_front (suc n) (b ∷ bs) (k ∷ ks) h = ap (λ t. bit_xor b k ∷ t) (xored_front n bs ks (omega arith))

-- a part of a list without its first n
pub part_less : (xs : List ℕ) (from to n : ℕ) → from + n ≤ to → take (to - (from + n)) (drop (from + n) xs) ≡ drop n (take (to - from) (drop from xs))
part_less xs from to n h =
    let m : ℕ = to - (from + n) in
    let e : n + m ≡ to - from = omega arith in
    ap (take m) (sym (drop-drop n from xs)) ∙ sym (drop-take n m (drop from xs)) ∙ ap (λ t. drop n (take t (drop from xs))) e

pub none_covered : (K : ℕ → ℕ) (p : ℕ) (bs : List ℕ) → length bs ≡ 0 → bs ≡ covered K p bs
none_covered K p [] e = refl
none_covered K p (b ∷ bs) e = absurd (omega arith)
