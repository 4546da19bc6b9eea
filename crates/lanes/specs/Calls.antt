-- How the lanes agree with the generator below, in state s, and with the row h at hand.
use Rattle.std.specs.Prelude.{◌≡◌, ℕ, ◌+◌, ◌/◌, Ok, Err, Option, Result}
use Rattle.refusal.specs.declared.Refusal.{Refusal}
use Rattle.row.specs.declared.Row.{Row}
use Rattle.mother.specs.Generators.{Generator, Stays}
use Rattle.lanes.specs.declared.hand.AtHand.{AtHand}
use Rattle.lanes.specs.Hands.{Stands}

-- the generator below is sound, and the lanes may stand at place n
pub record Joined {S : Type 0} (m : Generator S Row) (s : S) (h : Option AtHand) (n : ℕ) : Type 0 where
  pub sound : m.sound s
  pub stands : Stands h (m.word s) (m.place s) n

-- new lanes are over the generator that they were given, at place 0, and sound if that one is sound and at place 0
pub record Fresh {S : Type 0} (m : Generator S Row) (handed kept : S) (h : Option AtHand) (n : ℕ) : Type 0 where
  pub below : kept ≡ handed
  pub place : n ≡ 0
  pub sound : m.sound handed → m.place handed ≡ 0 → Joined m kept h n

-- r is row i, the words below stay, and the lanes may now stand at n
pub record Got {S : Type 0} (m : Generator S Row) (s : S) (i : ℕ) (r : Row) (s' : S) (h : Option AtHand) (n : ℕ) : Type 0 where
  pub row : r ≡ m.word s i
  pub stays : Stays m s s' (m.place s')
  pub joined : Joined m s' h n

-- the row of word n, for a move on from place n and for a move back to it: the generator below does not refuse it
abbrev pub RowOn : {S : Type 0} → Generator S Row → S → Option AtHand → ℕ → Result Row Refusal → S → Option AtHand → Type 0
RowOn m s h n (Ok r) s' h' = Joined m s h n → Got m s (n / 4) r s' h' (n + 1)
RowOn m s h n (Err e) s' h' = Joined m s h n → ⊥

abbrev pub RowBack : {S : Type 0} → Generator S Row → S → Option AtHand → ℕ → Result Row Refusal → S → Option AtHand → Type 0
RowBack m s h n (Ok r) s' h' = Joined m s h (n + 1) → Got m s (n / 4) r s' h' n
RowBack m s h n (Err e) s' h' = Joined m s h (n + 1) → ⊥
