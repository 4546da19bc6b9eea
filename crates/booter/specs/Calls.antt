-- What the calls on a register do, and what a booter at a place stands for.
use Rattle.std.specs.Prelude.{◌≡◌, ℕ, ◌+◌, ◌-◌, ◌<◌, List, slice_index_or}
use Rattle.row.specs.declared.Row.{Row}
use Rattle.row.specs.Rows.{zeros, ◌+₃₂◌, ◌-₃₂◌, ◌⊗₃₂◌, ◌⊘₃₂◌, odd, ps2}
use Rattle.row.specs.Undone.{unps1}
use Rattle.booter.specs.declared.register.Register.{Register}
use Rattle.booter.specs.Registers.{State, state, kth, output, fed, onward, output_before, backward}
use Rattle.booter.specs.Registers.{ahead, behind, o_from, Sound}
use Rattle.booter.specs.Loading.{count, height, rows_loaded}

abbrev pub held : Register → State
held r = state r.rows r.head r.accumulator

-- the row k after the oldest, and the newest
abbrev pub kth_of : Register → ℕ → Row
kth_of r k = kth r.height (held r) k

abbrev pub newest_of : Register → Row
newest_of r = kth_of r (r.height - 1)

-- what a step is made of, and what a step is undone by
abbrev pub output_of : Register → Row
output_of r = kth_of r 0 +₃₂ kth_of r (r.height - 2)

abbrev pub turned_of : Register → Row
turned_of r = r.accumulator ⊗₃₂ ps2 (newest_of r)

abbrev pub output_before_of : Register → Row
output_before_of r = unps1 (newest_of r +₃₂ r.accumulator)

abbrev pub turned_before_of : Register → Row
turned_before_of r = r.accumulator ⊘₃₂ ps2 (kth_of r (r.height - 2))

abbrev pub oldest_before_of : Register → Row → Row
oldest_before_of r output = output -₃₂ kth_of r (r.height - 3)

-- a step answers its output and the row fed back
pub record Stepped (r : Register) (pair : Row × Row) (r' : Register) : Type 0 where
  pub height : r'.height ≡ r.height
  pub first : pair.0 ≡ output r.height (held r)
  pub second : pair.1 ≡ fed r.height (held r)
  pub moved : held r' ≡ onward r.height (held r)

-- a step undone answers the same pair
pub record Unstepped (r : Register) (pair : Row × Row) (r' : Register) : Type 0 where
  pub height : r'.height ≡ r.height
  pub first : pair.0 ≡ output_before r.height (held r)
  pub second : pair.1 ≡ newest_of r
  pub moved : held r' ≡ backward r.height (held r)

-- the register that a key and an IV give
pub record Loaded (key iv : List ℕ) (r : Register) : Type 0 where
  pub height : r.height ≡ height key iv
  pub head : r.head ≡ 0
  pub rows : r.rows ≡ rows_loaded key iv
  pub accumulator : r.accumulator ≡ odd (slice_index_or (rows_loaded key iv) (count iv) zeros)

-- the idle steps, H + 2 of them
pub record Idled (r r' : Register) : Type 0 where
  pub height : r'.height ≡ r.height
  pub moved : held r' ≡ ahead r.height (r.height + 2) (held r)

-- each lane is below 2 ^ 32
unfoldable pub Sane : Register → Type 0
Sane r = Sound r.height (held r)

-- a register n steps past its idle ones stands for the words that it comes to when these n are undone
abbrev pub front : Register → ℕ → State
front r n = behind r.height n (held r)

unfoldable pub start_from : Register → ℕ → Row
start_from r n = kth r.height (front r n) (r.height - 1)

unfoldable pub word_from : Register → ℕ → ℕ → Row
word_from r n = λ i. o_from r.height (front r n) i

-- wherever it stands, a step gives the word at the place n, and the words in force stay
pub record WordAt (r : Register) (w : Row) (r' : Register) : Type 0 where
  pub sound : Sane r → Sane r'
  pub word : Sane r → (n : ℕ) → w ≡ word_from r n n
  pub start_stays : Sane r → (n : ℕ) → start_from r' (n + 1) ≡ start_from r n
  pub word_stays : Sane r → (n : ℕ) → word_from r' (n + 1) ≡ word_from r n

-- and a step undone the word before it
pub record WordBefore (r : Register) (w : Row) (r' : Register) : Type 0 where
  pub sound : Sane r → Sane r'
  pub word : Sane r → (n : ℕ) → 0 < n → w ≡ word_from r n (n - 1)
  pub start_stays : Sane r → (n : ℕ) → 0 < n → start_from r' (n - 1) ≡ start_from r n
  pub word_stays : Sane r → (n : ℕ) → 0 < n → word_from r' (n - 1) ≡ word_from r n

-- sound, and at place 0
pub record Fresh (r : Register) (n : ℕ) : Type 0 where
  pub sound : Sane r
  pub place : n ≡ 0
