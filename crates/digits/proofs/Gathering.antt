-- What f gives of each part, as a loop over the parts gathers it.
use Rattle.std.proofs.Common.{◌≡◌, ℕ, ◌+◌, ◌<◌, ◌≤◌, List, [], ◌∷◌, ◌++◌, length, get_or, drop, Some, None, Option, sym, refl, ap, ◌∙◌, append_assoc, append-nil}
use Rattle.std.proofs.lemmas.List.{at_drop_more, at_drop_all, get_or_read, length_push}
use Rattle.digits.specs.Digits.{◌⟫◌, prefixed, each}

prefixed_more : (xs : List ℕ) (n : ℕ) (o : Option (List ℕ)) → prefixed xs (prefixed (n ∷ []) o) ≡ prefixed (xs ++ n ∷ []) o
prefixed_more xs n None = refl
prefixed_more xs n (Some r) = ap Some (sym (append_assoc xs (n ∷ []) r))

-- xs are what f gives of the first i parts
abbrev pub Gathered : (List ℕ → Option ℕ) → List (List ℕ) → ℕ → List ℕ → Type 0
Gathered f parts i xs = prefixed xs (each f (drop i parts)) ≡ each f parts

module _ (f : List ℕ → Option ℕ) (parts : List (List ℕ)) (i : ℕ) (xs : List ℕ) (so_far : Gathered f parts i xs) where
  stepped : i < length parts → (o : Option ℕ) → f (get_or parts i []) ≡ o
      → prefixed xs (o ⟫ λ n. prefixed (n ∷ []) (each f (drop (i + 1) parts))) ≡ each f parts
  stepped h o e =
      let t = ap (prefixed xs) (at_drop_more (each f) parts i [] h) in
      ap (λ p. prefixed xs (p ⟫ λ n. prefixed (n ∷ []) (each f (drop (i + 1) parts)))) (sym e) ∙ sym t ∙ so_far

  pub gathered_more : (n : ℕ) (ys : List ℕ) → i < length parts → f (get_or parts i []) ≡ Some n → ys ≡ xs ++ n ∷ []
      → Gathered f parts (i + 1) ys
  gathered_more n ys h e y =
      ap (λ zs. prefixed zs (each f (drop (i + 1) parts))) y
      ∙ sym (prefixed_more xs n (each f (drop (i + 1) parts)))
      ∙ stepped h (Some n) e

  pub gathered_none : i < length parts → f (get_or parts i []) ≡ None → each f parts ≡ None
  gathered_none h e = sym (stepped h None e)

  pub gathered_all : length parts ≤ i → each f parts ≡ Some xs
  gathered_all h = sym so_far ∙ at_drop_all (λ ps. prefixed xs (each f ps)) parts i h ∙ ap Some (append-nil xs)

-- the same steps where an iterator has yielded some parts and now yields p
module _ {Y : Type 0} (f : List ℕ → Option ℕ) (parts : List (List ℕ)) (yielded : List Y) (xs p : List ℕ)
    (so_far : Gathered f parts (length yielded) xs) (lt : length yielded < length parts) (is : p ≡ get_or parts (length yielded) p) where
  at_turn : (o : Option ℕ) → f p ≡ o → f (get_or parts (length yielded) []) ≡ o
  at_turn o e = ap f (sym (get_or_read parts (length yielded) p lt is [])) ∙ e

  pub turn_more : (y : Y) (n : ℕ) (ys : List ℕ) → f p ≡ Some n → ys ≡ xs ++ n ∷ [] → Gathered f parts (length (yielded ++ y ∷ [])) ys
  turn_more y n ys e g =
      ap (λ k. prefixed ys (each f (drop k parts))) (length_push yielded y)
      ∙ gathered_more f parts (length yielded) xs so_far n ys lt (at_turn (Some n) e) g

  pub turn_none : f p ≡ None → each f parts ≡ None
  turn_none e = gathered_none f parts (length yielded) xs so_far lt (at_turn None e)
