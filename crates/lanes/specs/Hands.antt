-- The row at hand. Everywhere w has the words of the generator below, p is its place and n that of the lanes.
use Rattle.std.specs.Prelude.{◌≡◌, ℕ, ◌+◌, ◌-◌, ◌*◌, ◌/◌, ◌<◌, ◌≤◌, Some, None, Option}
use Rattle.row.specs.declared.Row.{Row}
use Rattle.lanes.specs.declared.hand.AtHand.{AtHand}
use Rattle.lanes.specs.declared.hand.AtHand.TheVariants.{Passed, Ahead}

-- the row at hand, if there is one, is the word below that it says, and n is the place of one of its lanes or right
-- behind the last
abbrev pub Stands : Option AtHand → (ℕ → Row) → ℕ → ℕ → Type 0
Stands None w p n = (p ≡ 0) × (n ≡ 0)
Stands (Some (Passed r)) w p n = (0 < p) × (r ≡ w (p - 1)) × (4 * (p - 1) ≤ n) × (n ≤ 4 * p)
Stands (Some (Ahead r)) w p n = (r ≡ w p) × (4 * p ≤ n) × (n ≤ 4 * (p + 1))

-- r is at hand, as row i
pub record IsThere (h : Option AtHand) (w : ℕ → Row) (p i : ℕ) (r : Row) : Type 0 where
  pub row : r ≡ w i
  pub stands : (n : ℕ) → 4 * i ≤ n → n ≤ 4 * (i + 1) → Stands h w p n

-- row i is not at hand: for a move on the generator below is then at it or one row before it, and for a move back
-- right behind it or one row further
pub record IsAway (p n i : ℕ) : Type 0 where
  pub on : n / 4 ≡ i → (p ≤ i) × (i ≤ p + 1)
  pub back : 0 < n → (n - 1) / 4 ≡ i → (i + 1 ≤ p) × (p ≤ i + 2)

-- the answer to whether row i is at hand
abbrev pub Found : Option AtHand → ℕ → ℕ → Option Row → Type 0
Found h p i (Some r) = (w : ℕ → Row) (n : ℕ) → Stands h w p n → IsThere h w p i r
Found h p i None = (w : ℕ → Row) (n : ℕ) → Stands h w p n → IsAway p n i
