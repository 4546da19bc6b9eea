-- Places visited one after another.
use Rattle.std.specs.Prelude.{◌≡◌, ℕ, ◌<◌, ◌≤◌, List, map, length, Ok, Err, vec_items, Result, Vec, slice_index}
use Rattle.std.specs.declared.alloc.Global.{Global}
use Rattle.refusal.specs.Numbers.{numbered}
use Rattle.mother.specs.Generators.{Generator, Stays, limit}
use Rattle.walk.specs.declared.WalkError.{WalkError}
use Rattle.walk.specs.declared.WalkError.TheVariants.{Refusal, NoMemory}

module _ {S W : Type 0} (m : Generator S W) where
  -- the generator stands somewhere among the same words
  abbrev pub Among : S → S → Type 0
  Among s s' = m.sound s' × Stays m s s' (m.place s')

  -- the first n places are below the limit
  abbrev pub Low : List ℕ → ℕ → Type 0
  Low places n = (i : ℕ) → i < n → slice_index places i < limit

  -- the word at each place; refused by 15 exactly where a place is beyond the last word
  abbrev pub Visited : S → List ℕ → Result (Vec W Global) WalkError → S → Type 0
  Visited s places (Ok v) s' =
      m.sound s → Among s s' × Low places (length places) × (vec_items v ≡ map (m.word s) places)
  Visited s places (Err (Refusal e)) s' =
      m.sound s → Among s s' × (numbered e ≡ 15) × ((i : ℕ) × (i < length places) × (limit ≤ slice_index places i))
  Visited s places (Err (NoMemory e)) s' = m.sound s → Among s s'
