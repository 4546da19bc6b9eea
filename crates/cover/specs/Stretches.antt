-- A stretch of a keystream of a key and an IV.
use Rattle.std.specs.Prelude.{◌≡◌, ℕ, ◌+◌, ◌^◌, ◌<◌, ◌≤◌, ◌⊎◌, List, length, Ok, Err, Result}
use Rattle.refusal.specs.declared.Refusal.{Refusal}
use Rattle.refusal.specs.Numbers.{numbered}
use Rattle.mother.specs.Generators.{Lawful, LengthsRefused}
use Rattle.cover.specs.Lists.{streamed}

-- its bytes from position p on, where k has the keystream; refused by 2, then 6, then 13, and then nothing is written
abbrev pub Stretch : (ℕ → ℕ) → List ℕ → List ℕ → ℕ → List ℕ → Result (Unit {0}) Refusal → List ℕ → Type 0
Stretch k key iv p out (Ok _) out' =
    Lawful key × Lawful iv × (p + length out ≤ 2 ^ 32) × (out' ≡ streamed k p (length out))
Stretch k key iv p out (Err e) out' =
    (LengthsRefused key iv e ⊎ (Lawful key × Lawful iv × (2 ^ 32 < p + length out) × (numbered e ≡ 13))) × (out' ≡ out)
