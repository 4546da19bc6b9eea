-- Walks of the wide filter's memory over its words, on and back.
use Rattle.std.specs.Prelude.{◌≡◌, ℕ, ◌<◌, ◌≤◌, ◌⊎◌, List, length, Ok, Err, Result, ◌≢◌}
use Rattle.refusal.specs.declared.Refusal.{Refusal}
use Rattle.refusal.specs.Numbers.{numbered}
use Rattle.row.specs.declared.Row.{Row}
use Rattle.row.specs.Bytes.{row_bytes}
use Rattle.mother.specs.Generators.{Lawful, LengthsRefused, limit}
use Rattle.keystream.specs.Keystreams.{memory}
use Rattle.cryptmt.specs.Wide.{wide, wide_words}

-- y is what a walk of k words came to, if it is P; refused by 2, then 6, and by 15 where there are not as many words
abbrev pub Walked : (Row → Type 0) → List ℕ → List ℕ → ℕ → Result Row Refusal → Type 0
Walked P key iv k (Ok y) = Lawful key × Lawful iv × (k ≤ limit) × P y
Walked P key iv k (Err e) = LengthsRefused key iv e ⊎ (Lawful key × Lawful iv × (limit < k) × (numbered e ≡ 15))

-- k words on it is y_k, and k words on and back the first memory, the start word
abbrev pub WalkedOn : List ℕ → List ℕ → ℕ → Result Row Refusal → Type 0
WalkedOn key iv k = Walked (λ y. y ≡ memory wide (wide_words key iv) k) key iv k

abbrev pub WalkedThereAndBack : List ℕ → List ℕ → ℕ → Result Row Refusal → Type 0
WalkedThereAndBack key iv k = Walked (λ y. y ≡ (wide_words key iv).start) key iv k

-- the bytes of the memory that a walk came to, or its refusal and the buffer as it was
abbrev pub Written : (Result Row Refusal → Type 0) → List ℕ → Result (Unit {0}) Refusal → List ℕ → Type 0
Written P old (Ok _) new = (y : Row) × P (Ok y) × (new ≡ row_bytes y)
Written P old (Err e) new = P (Err e) × (new ≡ old)

-- 0 and the bytes of a memory, or the number of a refusal and the buffer as it was
abbrev pub Told : Result Row Refusal → List ℕ → ℕ → List ℕ → Type 0
Told (Ok y) old r new = (r ≡ 0) × (new ≡ row_bytes y)
Told (Err e) old r new = (r ≡ numbered e) × (new ≡ old)

-- what a walk tells, or 255 where the buffer has not 16 bytes
abbrev pub Answers : (Result Row Refusal → Type 0) → List ℕ → ℕ → List ℕ → Type 0
Answers P old r new =
    ((length old ≢ 16) × (r ≡ 255) × (new ≡ old))
    ⊎ ((length old ≡ 16) × ((x : Result Row Refusal) × P x × Told x old r new))
