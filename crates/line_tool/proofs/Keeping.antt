-- A line that has begun, before what follows it.
use Rattle.std.proofs.Common.{◌≡◌, ◌≢◌, ℕ, suc, ◌+◌, List, [], ◌∷◌, ◌++◌, length, take, map, cond, All, refl, sym, ap, ◌∙◌, append_assoc, append-nil, inl, inr, arith, ne_eqb, length-append}
use Rattle.std.proofs.lemmas.List.{take_all, take_at}
use Rattle.std.proofs.lemmas.Bool.{cases_lt}
use Rattle.std.specs.List.{onto_first}
use Rattle.line_tool.specs.Lines.{lines_of, kept_of, IsKept}

-- bytes before the first line
abbrev onto : List ℕ → List (List ℕ) → List (List ℕ)
onto [] ls = ls
onto (b ∷ bs) ls = onto_first b (onto bs ls)

onto_line : (p l : List ℕ) (ls : List (List ℕ)) → onto p (l ∷ ls) ≡ (p ++ l) ∷ ls
onto_line [] l ls = refl
onto_line (b ∷ bs) l ls = ap (onto_first b) (onto_line bs l ls)

onto_none : (b : ℕ) (bs : List ℕ) → onto (b ∷ bs) [] ≡ (b ∷ bs) ∷ []
onto_none b [] = refl
onto_none b (c ∷ bs) = ap (onto_first b) (onto_none c bs)

lines_onto : (p rest : List ℕ) → All (λ b. b ≢ 10) p → lines_of (p ++ rest) ≡ onto p (lines_of rest)
lines_onto [] rest h = refl
lines_onto (b ∷ bs) rest h =
    ap (λ t. cond t ([] ∷ lines_of (bs ++ rest)) (onto_first b (lines_of (bs ++ rest)))) (ne_eqb b 10 (h 0 0 (omega arith)))
    ∙ ap (onto_first b) (lines_onto bs rest (λ k d lt. h (suc k) d (omega arith)))

-- the byte 10 ends the line
pub ended : (most : ℕ) (p rest : List ℕ) → IsKept most p → kept_of most (p ++ 10 ∷ rest) ≡ p ∷ kept_of most rest
ended most p rest k =
    ap (map (take (most + 1))) (lines_onto p (10 ∷ rest) k.open_ended ∙ onto_line p [] (lines_of rest))
    ∙ ap (λ l. take (most + 1) l ∷ kept_of most rest) (append-nil p)
    ∙ ap (λ l. l ∷ kept_of most rest) (take_all (most + 1) p k.short)

-- one byte more goes unseen where enough are kept
unseen : (most b : ℕ) (p : List ℕ) (ls : List (List ℕ)) → length p ≡ most + 1
    → map (take (most + 1)) (onto p (onto_first b ls)) ≡ map (take (most + 1)) (onto p ls)
unseen most b [] ls h = absurd (omega arith)
unseen most b (a ∷ p) [] h =
    ap (map (take (most + 1))) (onto_line (a ∷ p) (b ∷ []) [])
    ∙ ap (λ l. l ∷ []) (take_at (a ∷ p) (b ∷ []) (most + 1) h ∙ sym (take_all (most + 1) (a ∷ p) (omega arith)))
    ∙ sym (ap (map (take (most + 1))) (onto_none a p))
unseen most b (a ∷ p) (l ∷ ls) h =
    ap (map (take (most + 1))) (onto_line (a ∷ p) (b ∷ l) ls)
    ∙ ap (λ x. x ∷ map (take (most + 1)) ls) (take_at (a ∷ p) (b ∷ l) (most + 1) h ∙ sym (take_at (a ∷ p) l (most + 1) h))
    ∙ sym (ap (map (take (most + 1))) (onto_line (a ∷ p) l ls))

-- any other byte goes on with it
pub goes_on : (most b : ℕ) (p rest : List ℕ) → IsKept most p → b ≢ 10
    → kept_of most (p ++ b ∷ rest) ≡ kept_of most (take (most + 1) (p ++ b ∷ []) ++ rest)
goes_on most b p rest k ne =
    let other : lines_of (b ∷ rest) ≡ onto_first b (lines_of rest) =
    ap (λ t. cond t ([] ∷ lines_of rest) (onto_first b (lines_of rest))) (ne_eqb b 10 ne) in
    elim (cases_lt (length p) (most + 1)) [
      | inl h ↦
          ap (kept_of most) (sym (append_assoc p (b ∷ []) rest))
          ∙ ap (λ l. kept_of most (l ++ rest)) (sym (take_all (most + 1) (p ++ b ∷ []) (omega (arith, length-append p (b ∷ [])))))
      | inr h ↦
          ap (map (take (most + 1))) (lines_onto p (b ∷ rest) k.open_ended ∙ ap (onto p) other)
          ∙ unseen most b p (lines_of rest) (omega (arith, k.short))
          ∙ ap (map (take (most + 1))) (sym (lines_onto p rest k.open_ended))
          ∙ ap (λ l. kept_of most (l ++ rest)) (sym (take_at p (b ∷ []) (most + 1) (omega (arith, k.short))))
    ]

-- the end of the input
pub one_begun : (most : ℕ) (p : List ℕ) → IsKept most p → length p ≢ 0 → kept_of most p ≡ p ∷ []
one_begun most [] k h = absurd (h refl)
one_begun most (a ∷ p) k h =
    ap (kept_of most) (sym (append-nil (a ∷ p)))
    ∙ ap (map (take (most + 1))) (lines_onto (a ∷ p) [] k.open_ended ∙ onto_none a p)
    ∙ ap (λ l. l ∷ []) (take_all (most + 1) (a ∷ p) k.short)
