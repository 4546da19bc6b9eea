-- A buffer that is covered piece by piece.
use Rattle.std.specs.Prelude.{◌≡◌, ℕ, ◌+◌, ◌^◌, ◌<◌, ◌≤◌, ◌⊎◌, List, length, Ok, Err, Result}
use Rattle.refusal.specs.declared.Refusal.{Refusal}
use Rattle.refusal.specs.Numbers.{numbered}
use Rattle.mother.specs.Generators.{Words, Generator, Lawful}
use Rattle.keystream.specs.declared.Filter.{Ghosts}
use Rattle.keystream.specs.Keystreams.{byte_at}
use Rattle.cover.specs.declared.Cover.{Cover}
use Rattle.cover.specs.Lists.{covered}
use Rattle.cover.specs.Covers.{Ready}
use Rattle.cryptmt.specs.Wide.{wide_byte}

module _ {M F W Y : Type 0} (m : Generator M W) (f : Ghosts F W Y) where
  abbrev pub AllCovered : Words W → ℕ → List ℕ → Result (Unit {0}) Refusal → Cover M F W Y → List ℕ → Type 0
  AllCovered ws p old (Ok _) c new = (new ≡ covered (byte_at f ws) p old) × Ready m f c ws (p + length old)
  AllCovered ws p old (Err e) c new = ⊥

  -- whatever the pieces, the buffer is covered as by one call
  abbrev pub InPieces : Cover M F W Y → List ℕ → Result (Unit {0}) Refusal → Cover M F W Y → List ℕ → Type 0
  InPieces c old r c' new = (ws : Words W) (p : ℕ) → Ready m f c ws p → p + length old ≤ 2 ^ 32 → AllCovered ws p old r c' new

-- 0, or the number of a refusal
abbrev pub number_of : Result (Unit {0}) Refusal → ℕ
number_of (Ok _) = 0
number_of (Err e) = numbered e

-- covered with the wide keystream from position 0 on, or refused by 2, 6 or 13 and left as it was
abbrev pub CoversWide : List ℕ → List ℕ → List ℕ → ℕ → List ℕ → Type 0
CoversWide key iv old r new =
    ((Lawful key → ⊥) × (r ≡ 2) × (new ≡ old))
    ⊎ (Lawful key × (Lawful iv → ⊥) × (r ≡ 6) × (new ≡ old))
    ⊎ (Lawful key × Lawful iv × (2 ^ 32 < length old) × (r ≡ 13) × (new ≡ old))
    ⊎ (Lawful key × Lawful iv × (length old ≤ 2 ^ 32) × (r ≡ 0) × (new ≡ covered (wide_byte key iv) 0 old))
