-- What a generator of words stands for, and what its calls do.
use Rattle.std.specs.Prelude.{◌≡◌, ℕ, ◌+◌, ◌-◌, ◌%◌, ◌^◌, ◌<◌, ◌≤◌, ◌⊎◌, List, length, Ok, Err, Result, slice_index_or}
use prog.Memory.{size}
use denote.Param.{layout}
use Rattle.std.specs.Borrow.{RattleType}
use Rattle.refusal.specs.declared.Refusal.{Refusal}
use Rattle.refusal.specs.Numbers.{numbered}

-- what a key and an IV fix: a start word and the list of words, by index
pub record Words (W : Type 0) : Type 0 where
  pub start : W
  pub word : ℕ → W

-- the ghost members of a generator as one: what they say of a state S
pub record Generator (S W : Type 0) : Type 1 where
  pub start : S → W
  pub word : S → ℕ → W
  pub place : S → ℕ
  pub given : S → List ℕ → List ℕ → Words W
  pub sound : S → Type 0

abbrev pub generator : {S W : Type 0} → (S → W) → (S → ℕ → W) → (S → ℕ) → (S → List ℕ → List ℕ → Words W) → (S → Type 0)
    → Generator S W
generator start word place given sound =
    record { start = start; word = word; place = place; given = given; sound = sound }

-- a word takes fewer than 2 ^ 32 bytes, so that a few of them fit in memory
abbrev pub Small : RattleType → Type 0
Small R = size (layout R) < 2 ^ 32

-- how many words a generator has
abbrev pub limit : ℕ
limit = 2 ^ 34

-- a key or an IV: 1 to 16 rows of 16 bytes
abbrev pub Lawful : List ℕ → Type 0
Lawful bytes = (16 ≤ length bytes) × (length bytes ≤ 256) × (length bytes % 16 ≡ 0)

-- a set-up is refused by 2 for its key, then by 6 for its IV
abbrev pub LengthsRefused : List ℕ → List ℕ → Refusal → Type 0
LengthsRefused key iv e =
    ((Lawful key → ⊥) × (numbered e ≡ 2)) ⊎ (Lawful key × (Lawful iv → ⊥) × (numbered e ≡ 6))

-- from state s to s' the words stay, and the place is now n
pub record Stays {S W : Type 0} (m : Generator S W) (s s' : S) (n : ℕ) : Type 0 where
  pub start : m.start s' ≡ m.start s
  pub word : m.word s' ≡ m.word s
  pub given : m.given s' ≡ m.given s
  pub place : m.place s' ≡ n

-- state s' stands at the front of the words that a key and an IV fix
pub record Front {S W : Type 0} (m : Generator S W) (s : S) (key iv : List ℕ) (s' : S) : Type 0 where
  pub start : m.start s' ≡ (m.given s key iv).start
  pub word : m.word s' ≡ (m.given s key iv).word
  pub given : m.given s' ≡ m.given s
  pub place : m.place s' ≡ 0
  pub sound : m.sound s'

-- a set-up answers the start word, from any state
abbrev pub SetUp : {S W : Type 0} → Generator S W → S → List ℕ → List ℕ → Result W Refusal → S → Type 0
SetUp m s key iv (Ok w) s' = Lawful key × Lawful iv × (w ≡ m.start s') × Front m s key iv s'
SetUp m s key iv (Err e) s' = LengthsRefused key iv e × Stays m s s' (m.place s) × (m.sound s → m.sound s')

-- next answers the word at the place, and is refused by 15 exactly at the limit
abbrev pub Next : {S W : Type 0} → Generator S W → S → Result W Refusal → S → Type 0
Next m s (Ok w) s' =
    m.sound s → m.sound s' × (m.place s < limit) × (w ≡ m.word s (m.place s)) × Stays m s s' (m.place s + 1)
Next m s (Err e) s' =
    m.sound s → m.sound s' × (m.place s ≡ limit) × (numbered e ≡ 15) × Stays m s s' (m.place s)

-- a list holds the words w from place p on
abbrev pub Reads : {W : Type 0} → (ℕ → W) → ℕ → List W → Type 0
Reads {W} w p ws = (i : ℕ) (d : W) → i < length ws → slice_index_or ws i d ≡ w (p + i)

-- from state s, i words were read to the front of a list
pub record Filled {S W : Type 0} (m : Generator S W) (s : S) (i : ℕ) (s' : S) (ws : List W) : Type 0 where
  pub sound : m.sound s'
  pub stays : Stays m s s' (m.place s + i)
  pub reads : (k : ℕ) (d : W) → k < i → slice_index_or ws k d ≡ m.word s (m.place s + k)

-- fill answers as many words as a buffer has, as so many calls of next; it is refused by 15 exactly where they would pass
-- the limit, and then nothing is changed
abbrev pub Fills : {S W : Type 0} → Generator S W → S → List W → Result (Unit {0}) Refusal → S → List W → Type 0
Fills m s old (Ok _) s' new =
    m.sound s → m.sound s' × (m.place s + length old ≤ limit) × Reads (m.word s) (m.place s) new
    × Stays m s s' (m.place s + length old)
Fills m s old (Err e) s' new =
    m.sound s → m.sound s' × (limit < m.place s + length old) × (numbered e ≡ 15) × (new ≡ old) × Stays m s s' (m.place s)

-- back answers the word before the place, and is refused by 14 exactly at place 0
abbrev pub Back : {S W : Type 0} → Generator S W → S → Result W Refusal → S → Type 0
Back m s (Ok w) s' =
    m.sound s → m.sound s' × (0 < m.place s) × (w ≡ m.word s (m.place s - 1)) × Stays m s s' (m.place s - 1)
Back m s (Err e) s' =
    m.sound s → m.sound s' × (m.place s ≡ 0) × (numbered e ≡ 14) × Stays m s s' (m.place s)
