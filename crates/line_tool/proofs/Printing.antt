-- A loop that answers the lines of an input, between two bytes of it.
use Rattle.std.proofs.Common.{◌≡◌, ℕ, List, [], ◌∷◌, ◌++◌, Option, None, Some, refl, sym, ap, ◌∙◌, append_assoc, append-nil}
use Rattle.std.specs.Prelude.{⊤}
use Rattle.std.specs.Io.KnownBytes.{Consumes, IsAtEnd, prepend_known}
use Rattle.std.proofs.KnownBytes.{Appends-nil, Appends-trans}
use Rattle.line_tool.specs.Lines.{kept_of, Prints, Printed, Answered}

module _ (answers : List ℕ → List ℕ → Type 0) (most : ℕ) where
  -- the lines of the input: those so far, which are answered, and those of what has begun and what is left
  abbrev pub Going : Option (List ℕ) → Option (List ℕ) → List ℕ → Option (List ℕ) → Option (List ℕ) → Type 0
  Going None left line old new = ⊤
  Going (Some bytes) None line old new = ⊥
  Going (Some bytes) (Some rest) line old new =
      (done : List (List ℕ)) × Printed answers done old new × (kept_of most bytes ≡ done ++ kept_of most (line ++ rest))

  -- texts one after another
  prints_more : (lines more : List (List ℕ)) (text text' : List ℕ)
      → Prints answers lines text → Prints answers more text' → Prints answers (lines ++ more) (text ++ text')
  prints_more [] more text text' p q = rw p q
  prints_more (line ∷ lines) more text text' (answer, rest, a, p, e) q =
      let all = ap (λ t. t ++ text') e ∙ append_assoc answer (10 ∷ rest) text' in
      (answer, rest ++ text', a, prints_more lines more rest text' p q, all)

  printed_more : (lines more : List (List ℕ)) (a b c : Option (List ℕ))
      → Printed answers lines a b → Printed answers more b c → Printed answers (lines ++ more) a c
  printed_more lines more a b c p q = record {
    text = p.text ++ q.text;
    right = prints_more lines more p.text q.text p.right q.right;
    added = Appends-trans a b c p.text q.text p.added q.added;
  }

  none : (held : Option (List ℕ)) → Printed answers [] held held
  none held = record { text = []; right = refl; added = Appends-nil held }

  -- before the first byte
  pub starts : (line : List ℕ) (input left old : Option (List ℕ)) → line ≡ [] → left ≡ prepend_known [] input
      → Going input left line old old
  starts line None left old n e = tt
  starts line (Some bytes) None old n e = absurd (cc)
  starts line (Some bytes) (Some rest) old n e =
      let all : bytes ≡ line ++ rest = cc in
      ([], none old, ap (kept_of most) all)

  -- a byte that ends no line
  pub goes : (b : ℕ) (line line' : List ℕ) (input left left' old new : Option (List ℕ))
      → Going input left line old new → Consumes left left' (b ∷ [])
      → ((rest : List ℕ) → kept_of most (line ++ b ∷ rest) ≡ kept_of most (line' ++ rest))
      → Going input left' line' old new
  goes b line line' None left left' old new h c t = tt
  goes b line line' (Some bytes) None left' old new h c t = absurd h
  goes b line line' (Some bytes) (Some rest) None old new h c t = absurd c
  goes b line line' (Some bytes) (Some rest) (Some rest') old new (done, p, e) c t =
      (done, p, e ∙ ap (λ l. done ++ kept_of most (line ++ l)) c ∙ ap (λ ls. done ++ ls) (t rest'))

  -- a byte that ends one, which is answered
  pub goes_answered : (b : ℕ) (line whole line' : List ℕ) (input left left' old new new' : Option (List ℕ))
      → Going input left line old new → Printed answers (whole ∷ []) new new' → Consumes left left' (b ∷ [])
      → ((rest : List ℕ) → kept_of most (line ++ b ∷ rest) ≡ whole ∷ kept_of most (line' ++ rest))
      → Going input left' line' old new'
  goes_answered b line whole line' None left left' old new new' h p c t = tt
  goes_answered b line whole line' (Some bytes) None left' old new new' h p c t = absurd h
  goes_answered b line whole line' (Some bytes) (Some rest) None old new new' h p c t = absurd c
  goes_answered b line whole line' (Some bytes) (Some rest) (Some rest') old new new' (done, q, e) p c t =
      let all =
      e ∙ ap (λ l. done ++ kept_of most (line ++ l)) c ∙ ap (λ ls. done ++ ls) (t rest')
      ∙ sym (append_assoc done (whole ∷ []) (kept_of most (line' ++ rest'))) in
      (done ++ whole ∷ [], printed_more done (whole ∷ []) old new new' q p, all)

  -- the end of the input, where the lines of what has begun are answered last
  pub ends : (line : List ℕ) (lines : List (List ℕ)) (input left old new new' : Option (List ℕ))
      → Going input left line old new → IsAtEnd left → Printed answers lines new new' → kept_of most line ≡ lines
      → Answered answers most input old new'
  ends line lines None left old new new' h z p k = tt
  ends line lines (Some bytes) None old new new' h z p k = absurd h
  ends line lines (Some bytes) (Some rest) old new new' (done, q, e) z p k =
      let all : kept_of most bytes ≡ done ++ lines =
      e ∙ ap (λ l. done ++ kept_of most (line ++ l)) z ∙ ap (λ l. done ++ kept_of most l) (append-nil line)
      ∙ ap (λ ls. done ++ ls) k in
      rw all (printed_more done lines old new new' q p)

  pub ends_empty : (line : List ℕ) (input left old new : Option (List ℕ))
      → Going input left line old new → IsAtEnd left → kept_of most line ≡ [] → Answered answers most input old new
  ends_empty line input left old new h z k = ends line [] input left old new new h z (none new) k

pub ruleset going = (starts, goes, goes_answered, ends, ends_empty)
