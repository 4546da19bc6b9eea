-- The lines of an input.
use Rattle.std.specs.Prelude.{◌≡◌, ◌≢◌, ℕ, ◌+◌, ◌≤◌, cond, List, [], ◌∷◌, ◌++◌, length, take, map, Some, None, Ok, Err, IfSome, All, Option, Result, Vec, ◌==◌}
use Rattle.std.specs.declared.alloc.AllocError.{AllocError}
use Rattle.std.specs.declared.alloc.Global.{Global}
use Rattle.std.specs.List.{onto_first}
use Rattle.std.specs.Io.KnownBytes.{Appends}

-- the byte 10 ends a line, and the end of the input ends one that has begun
abbrev pub lines_of : List ℕ → List (List ℕ)
lines_of [] = []
lines_of (b ∷ bs) = cond (b == 10) ([] ∷ lines_of bs) (onto_first b (lines_of bs))

-- the lines as they are kept: of one that is too long, one byte more than the longest may have
abbrev pub kept_of : ℕ → List ℕ → List (List ℕ)
kept_of most bytes = map (take (most + 1)) (lines_of bytes)

-- what is kept of a line that has not ended
pub record IsKept (most : ℕ) (line : List ℕ) : Type 0 where
  pub short : length line ≤ most + 1
  pub open_ended : All (λ b. b ≢ 10) line

-- what a byte does to a line that has begun; want of memory leaves it
abbrev pub Steps : ℕ → List ℕ → ℕ → Result (Option (Vec ℕ Global)) AllocError → List ℕ → Type 0
Steps most line b (Ok (Some whole)) line' = (b ≡ 10) × (whole.items ≡ line) × (line' ≡ [])
Steps most line b (Ok None) line' = (b ≢ 10) × (line' ≡ take (most + 1) (line ++ b ∷ []))
Steps most line b (Err e) line' = line' ≡ line

-- so the lines of the input are those that are answered, and those of what follows, whatever that is
abbrev pub Takes : ℕ → List ℕ → ℕ → Result (Option (Vec ℕ Global)) AllocError → List ℕ → Type 0
Takes most line b (Ok (Some whole)) line' =
    (rest : List ℕ) → kept_of most (line ++ b ∷ rest) ≡ whole.items ∷ kept_of most (line' ++ rest)
Takes most line b (Ok None) line' = (rest : List ℕ) → kept_of most (line ++ b ∷ rest) ≡ kept_of most (line' ++ rest)
Takes most line b (Err e) line' = line' ≡ line

-- what a tool prints, where `answers line text` says that text may be its answer to a line
module _ (answers : List ℕ → List ℕ → Type 0) where
  -- an answer to each line in turn, with the byte 10 behind each
  abbrev pub Prints : List (List ℕ) → List ℕ → Type 0
  Prints [] text = text ≡ []
  Prints (line ∷ lines) text =
      (answer rest : List ℕ) × answers line answer × Prints lines rest × (text ≡ answer ++ 10 ∷ rest)

  -- what a writer holds, where that is known, grows by such a text
  pub record Printed (lines : List (List ℕ)) (old new : Option (List ℕ)) : Type 0 where
    pub text : List ℕ
    pub right : Prints lines text
    pub added : Appends old new text

  -- the lines of an input are answered, where its bytes are known
  abbrev pub Answered : ℕ → Option (List ℕ) → Option (List ℕ) → Option (List ℕ) → Type 0
  Answered most input old new = IfSome input (λ bytes. Printed (kept_of most bytes) old new)
