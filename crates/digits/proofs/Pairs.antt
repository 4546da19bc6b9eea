-- Hex digits by pairs.
use Rattle.std.proofs.Common.{◌≡◌, ℕ, suc, ◌/◌, ◌%◌, List, [], ◌∷◌, length, Some, None, refl, ap, ◌∙◌, arith}
use Rattle.std.specs.Simd.{first_chunks}
use Rattle.digits.specs.Digits.{◌⟫◌, prefixed, each, byte_of, pair_of, hex_of}

pub odd_none : (xs : List ℕ) → (length xs % 2 ≡ 0 → ⊥) → hex_of xs ≡ None
odd_none [] h = absurd (h refl)
odd_none (a ∷ []) h = refl
odd_none (a ∷ b ∷ rest) h =
    let e = odd_none rest (λ k. h (omega arith)) in
    let none = elim (byte_of a b) as (λ o. (o ⟫ λ n. prefixed (n ∷ []) None) ≡ None) [ None ↦ refl | Some n ↦ refl ] in
    ap (λ r. byte_of a b ⟫ λ n. prefixed (n ∷ []) r) e ∙ none

by_pairs : (xs : List ℕ) → length xs % 2 ≡ 0 → each pair_of (first_chunks 2 (length xs / 2) xs) ≡ hex_of xs
by_pairs [] h = refl
by_pairs (a ∷ []) h = absurd (omega arith)
by_pairs (a ∷ b ∷ rest) h =
    let e : suc (suc (length rest)) / 2 ≡ suc (length rest / 2) = omega arith in
    ap (λ k. each pair_of (first_chunks 2 k (a ∷ b ∷ rest))) e
    ∙ ap (λ r. byte_of a b ⟫ λ n. prefixed (n ∷ []) r) (by_pairs rest (omega arith))

pub pairs_spell : (xs : List ℕ) (pairs : List (List ℕ)) → length xs % 2 ≡ 0 → pairs ≡ first_chunks 2 (length xs / 2) xs
    → each pair_of pairs ≡ hex_of xs
pairs_spell xs pairs h e = ap (each pair_of) e ∙ by_pairs xs h
