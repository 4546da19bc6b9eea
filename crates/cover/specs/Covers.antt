-- What a cover stands for, and what its calls do.
use Rattle.std.specs.Prelude.{◌≡◌, ℕ, ◌+◌, ◌^◌, ◌<◌, ◌≤◌, List, length, MatchResult, Some, None, Ok, Err, Option, Result}
use Rattle.refusal.specs.declared.Refusal.{Refusal}
use Rattle.refusal.specs.Numbers.{numbered}
use Rattle.mother.specs.Generators.{Words, Generator, Lawful, LengthsRefused}
use Rattle.keystream.specs.declared.Filter.{Ghosts}
use Rattle.keystream.specs.Keystreams.{byte_at}
use Rattle.cover.specs.declared.Cover.{Cover}
use Rattle.cover.specs.declared.stage.Stage.{Stage}
use Rattle.cover.specs.Lists.{covered}
use Rattle.cover.specs.Stretches.{Stretch}
use Rattle.cover.specs.Blocks.{At}

module _ {M F W Y : Type 0} (m : Generator M W) (f : Ghosts F W Y) where
  -- no set-up was made
  abbrev pub Empty : Cover M F W Y → Type 0
  Empty c = c.stage ≡ None

  -- its generator is s
  abbrev pub Over : Cover M F W Y → M → Type 0
  Over c s = c.mother ≡ s

  abbrev pub Staged : M → Option (Stage Y) → Words W → ℕ → Type 0
  Staged s None ws p = ⊥
  Staged s (Some st) ws p = At m f s st ws p

  -- the next byte is covered at position p of the keystream of the words ws
  abbrev pub Ready : Cover M F W Y → Words W → ℕ → Type 0
  Ready c ws p = Staged c.mother c.stage ws p

  -- a key and an IV fix the same words as before
  abbrev pub SameGiven : Cover M F W Y → Cover M F W Y → Type 0
  SameGiven c c' = m.given c'.mother ≡ m.given c.mother

  -- a set-up starts at position 0; one that is refused leaves what the cover stands for
  abbrev pub SetsUp : Cover M F W Y → List ℕ → List ℕ → Result (Unit {0}) Refusal → Cover M F W Y → Type 0
  SetsUp c key iv (Ok _) c' = Lawful key × Lawful iv × Ready c' (m.given c.mother key iv) 0 × SameGiven c c'
  SetsUp c key iv (Err e) c' =
      LengthsRefused key iv e × (Empty c → Empty c') × ((ws : Words W) (p : ℕ) → Ready c ws p → Ready c' ws p) × SameGiven c c'

  -- before a set-up: refused by 4, and nothing is changed
  abbrev pub NotBegun : Cover M F W Y → List ℕ → Result ℕ Refusal → Cover M F W Y → List ℕ → Type 0
  NotBegun c bytes (Ok q) c' bytes' = ⊥
  NotBegun c bytes (Err e) c' bytes' = (numbered e ≡ 4) × (c' ≡ c) × (bytes' ≡ bytes)

  -- from position p on: each byte is XORed with the keystream byte of its position; refused by 13 exactly
  -- where the last position would be passed, and then nothing is changed
  abbrev pub FromPosition : Words W → ℕ → Cover M F W Y → List ℕ → Result ℕ Refusal → Cover M F W Y → List ℕ → Type 0
  FromPosition ws p c bytes (Ok q) c' bytes' =
      (p + length bytes ≤ 2 ^ 32) × (q ≡ p) × (bytes' ≡ covered (byte_at f ws) p bytes)
      × Ready c' ws (p + length bytes) × SameGiven c c'
  FromPosition ws p c bytes (Err e) c' bytes' =
      (2 ^ 32 < p + length bytes) × (numbered e ≡ 13) × (c' ≡ c) × (bytes' ≡ bytes)

  abbrev pub Covers : Cover M F W Y → List ℕ → Result ℕ Refusal → Cover M F W Y → List ℕ → Type 0
  Covers c bytes r c' bytes' =
      (Empty c → NotBegun c bytes r c' bytes')
      × ((ws : Words W) (p : ℕ) → Ready c ws p → FromPosition ws p c bytes r c' bytes')

  -- n bytes more are passed over, where there are as many
  abbrev pub Passes : Cover M F W Y → ℕ → Result (Unit {0}) Refusal → Cover M F W Y → Type 0
  Passes c n r c' =
      (ws : Words W) (p : ℕ) → Ready c ws p → p + n ≤ 2 ^ 32 → MatchResult r (λ _. Ready c' ws (p + n)) (λ _. ⊥)

  -- the keystream bytes of a key and an IV from a position on
  abbrev pub Streams : M → List ℕ → List ℕ → ℕ → List ℕ → Result (Unit {0}) Refusal → List ℕ → Type 0
  Streams s key iv = Stretch (byte_at f (m.given s key iv)) key iv
