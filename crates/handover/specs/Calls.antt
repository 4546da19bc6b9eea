-- What the calls on a ring do, and how it agrees with the generator below. Everywhere w has the words below.
use Rattle.std.specs.Prelude.{◌≡◌, ℕ, ◌+◌, ◌-◌, ◌<◌, ◌≤◌, min, List, length, slice_index_or}
use Rattle.row.specs.declared.Row.{Row}
use Rattle.mother.specs.Generators.{Generator}
use Rattle.handover.specs.declared.ring.Ring.{Ring}
use Rattle.handover.specs.Recursion.{seed, later}
use Rattle.handover.specs.Rings.{wrap, kth, newer, older, onwards, backwards, Kept, HeldAt}

abbrev pub kth_of : Ring → ℕ → Row
kth_of s k = kth s.rows s.head k

abbrev pub newer_of : Ring → Row
newer_of s = newer s.rows s.head

abbrev pub older_of : Ring → Row
older_of s = older s.rows s.head

-- the ring has the first n rows; and what it has at place n
unfoldable pub Recorded : (ℕ → Row) → Ring → ℕ → Type 0
Recorded w s n = Kept w s.rows s.head 0 n

unfoldable pub Held : (ℕ → Row) → Ring → ℕ → Type 0
Held w s n = HeldAt w s.rows s.head n

-- the row of word n
abbrev pub Seeded : ℕ → Row → Row → Type 0
Seeded n word r = (w : ℕ → Row) → word ≡ w n → r ≡ seed w n

-- a step on
pub record TurnedOn (s : Ring) (r : Row) (t : Ring) : Type 0 where
  pub row : r ≡ newer_of s
  pub rows : t.rows ≡ onwards s.rows s.head
  pub head : t.head ≡ wrap (s.head + 1)

-- it gives the word at place n from 156 on, and after the last row recorded it passes over x_156
pub record GoesOn (s : Ring) (r : Row) (t : Ring) : Type 0 where
  pub word : (w : ℕ → Row) (n : ℕ) → 156 ≤ n → Held w s n → r ≡ later w n
  pub held : (w : ℕ → Row) (n : ℕ) → 156 ≤ n → Held w s n → Held w t (n + 1)
  pub seam : (w : ℕ → Row) (n : ℕ) → n ≡ 155 → Recorded w s (n + 1) → Held w t (n + 1)

-- so many steps on, from place 156 or a later one
pub record TurnedInto (s t : Ring) (words : List Row) : Type 0 where
  pub held : (w : ℕ → Row) (n : ℕ) → 156 ≤ n → Held w s n → Held w t (n + length words)
  pub reads : (w : ℕ → Row) (n : ℕ) → 156 ≤ n → Held w s n
      → (i : ℕ) (d : Row) → i < length words → slice_index_or words i d ≡ later w (n + i)

-- i of them, with the indices of the oldest and the middle row and the newest row itself outside the ring
pub record Turning (s : Ring) (rows : List Row) (head middle : ℕ) (newest : Row) (i : ℕ) (words : List Row) : Type 0 where
  pub inside : head < 156
  pub full : length rows ≡ 156
  pub below : middle < 156
  pub is_middle : middle ≡ wrap (head + 108)
  pub is_newest : newest ≡ kth rows head 155
  pub held : (w : ℕ → Row) (n : ℕ) → 156 ≤ n → Held w s n → HeldAt w rows head (n + i)
  pub reads : (w : ℕ → Row) (n : ℕ) → 156 ≤ n → Held w s n
      → (k : ℕ) (d : Row) → k < i → slice_index_or words k d ≡ later w (n + k)

-- a step back
pub record TurnedBack (s : Ring) (r : Row) (t : Ring) : Type 0 where
  pub row : r ≡ kth_of s 155
  pub rows : t.rows ≡ backwards s.rows s.head
  pub head : t.head ≡ wrap (s.head + 155)

-- it gives the word before place n above 156, and at 156 it undoes x_156
pub record GoesBack (s : Ring) (r : Row) (t : Ring) : Type 0 where
  pub word : (w : ℕ → Row) (n : ℕ) → 156 < n → Held w s n → r ≡ later w (n - 1)
  pub held : (w : ℕ → Row) (n : ℕ) → 156 < n → Held w s n → Held w t (n - 1)
  pub seam : (w : ℕ → Row) (n m : ℕ) → n ≡ 155 → m ≡ n + 1 → Held w s m → Held w t n

-- word n recorded, and forgotten
abbrev pub RecordedNext : Ring → ℕ → Row → Ring → Type 0
RecordedNext s n word t = (w : ℕ → Row) → word ≡ w n → Held w s n → Held w t (n + 1)

abbrev pub Forgot : Ring → ℕ → Ring → Type 0
Forgot s n t = (w : ℕ → Row) (m : ℕ) → m ≡ n + 1 → Held w s m → Held w t n

-- the generator below stands where the hand-over does, or at 156, and the ring has what belongs to the place n
pub record Joined {S : Type 0} (m : Generator S Row) (below : S) (ring : Ring) (n : ℕ) : Type 0 where
  pub sound : m.sound below
  pub place : m.place below ≡ min n 156
  pub held : Held (m.word below) ring n

-- a new one is over the generator that it was given, at place 0, and sound if that one is sound and at place 0
pub record Fresh {S : Type 0} (m : Generator S Row) (handed kept : S) (ring : Ring) (n : ℕ) : Type 0 where
  pub below : kept ≡ handed
  pub place : n ≡ 0
  pub sound : m.sound handed → m.place handed ≡ 0 → Joined m kept ring n
