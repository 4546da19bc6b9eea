-- What is printed for the words of a walk.
use Rattle.std.specs.Prelude.{◌≡◌, ℕ, List, [], ◌∷◌, ◌++◌, flat_map, Ok, Err, Result, Vec}
use Rattle.std.specs.declared.alloc.Global.{Global}
use Rattle.digits.specs.Digits.{spelled}
use Rattle.digits.specs.Refusals.{refusal_text}
use Rattle.walk.specs.declared.WalkError.{WalkError}
use Rattle.walk.specs.declared.WalkError.TheVariants.{Refusal, NoMemory}

module _ {W : Type 0} (bytes : W → List ℕ) where
  -- a word by its bytes in hex, after a space
  abbrev pub spaced : W → List ℕ
  spaced w = 32 ∷ spelled (bytes w)

  -- words by their bytes in hex, with single spaces between them
  abbrev pub joined : List W → List ℕ
  joined [] = []
  joined (w ∷ ws) = spelled (bytes w) ++ flat_map spaced ws

  -- the words, or why there are none; want of memory leaves no text
  abbrev pub Told : Result (Vec W Global) WalkError → List ℕ → Type 0
  Told (Ok words) text = text ≡ joined words.items
  Told (Err (Refusal e)) text = text ≡ refusal_text e
  Told (Err (NoMemory e)) text = ⊥
