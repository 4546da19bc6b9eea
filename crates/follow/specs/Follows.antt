-- A memory that follows a generator, on and back.
use Rattle.std.specs.Prelude.{◌≡◌, ℕ, ◌+◌, ◌-◌, ◌<◌, ◌≤◌, List, Ok, Err, Result}
use Rattle.refusal.specs.declared.Refusal.{Refusal}
use Rattle.refusal.specs.Numbers.{numbered}
use Rattle.mother.specs.Generators.{Words, Generator, Lawful, LengthsRefused, limit}
use Rattle.keystream.specs.declared.Filter.{Ghosts}
use Rattle.keystream.specs.Keystreams.{memory}

module _ {M F W Y : Type 0} (m : Generator M W) (f : Ghosts F W Y) where
  -- the generator s stands at place n of the words ws, and y is the memory after n of them
  pub record Follows (s : M) (y : Y) (ws : Words W) (n : ℕ) : Type 0 where
    pub sound : m.sound s
    pub word : m.word s ≡ ws.word
    pub place : m.place s ≡ n
    pub memory : y ≡ memory f ws n

  -- the first memory is held, that is one that the program can hold
  abbrev pub Begins : (Y → Type 0) → Words W → Type 0
  Begins held ws = held (f.first ws.start)

  -- a set-up begins at the front of the words that a key and an IV fix; one that is refused leaves what is followed
  abbrev pub SetsUp : (Y → Type 0) → M → List ℕ → List ℕ → Result Y Refusal → M → Type 0
  SetsUp held s key iv (Ok y) s' =
      Lawful key × Lawful iv × Begins held (m.given s key iv) × Follows s' y (m.given s key iv) 0
      × (m.given s' ≡ m.given s)
  SetsUp held s key iv (Err e) s' =
      LengthsRefused key iv e × ((y : Y) (ws : Words W) (n : ℕ) → Follows s y ws n → Follows s' y ws n)
      × (m.given s' ≡ m.given s)

  -- k words on from place n; refused by 15 exactly where these would pass the limit, and then all stays
  abbrev pub WentOn : Words W → ℕ → ℕ → M → Y → Result Y Refusal → M → Type 0
  WentOn ws n k s y (Ok y') s' = (n + k ≤ limit) × Follows s' y' ws (n + k) × (m.given s' ≡ m.given s)
  WentOn ws n k s y (Err e) s' =
      (limit < n + k) × (numbered e ≡ 15) × Follows s' y ws n × (m.given s' ≡ m.given s)

  abbrev pub GoesOn : M → Y → ℕ → Result Y Refusal → M → Type 0
  GoesOn s y k r s' = (ws : Words W) (n : ℕ) → Follows s y ws n → WentOn ws n k s y r s'

  -- k words back; refused by 14 exactly where these would pass the front, and then all stays
  abbrev pub WentBack : Words W → ℕ → ℕ → M → Y → Result Y Refusal → M → Type 0
  WentBack ws n k s y (Ok y') s' = (k ≤ n) × Follows s' y' ws (n - k) × (m.given s' ≡ m.given s)
  WentBack ws n k s y (Err e) s' = (n < k) × (numbered e ≡ 14) × Follows s' y ws n × (m.given s' ≡ m.given s)

  abbrev pub GoesBack : (Y → Type 0) → M → Y → ℕ → Result Y Refusal → M → Type 0
  GoesBack held s y k r s' =
      (ws : Words W) (n : ℕ) → Begins held ws → Follows s y ws n → WentBack ws n k s y r s'
