-- The narrow keystreams: a filter of two-byte blocks, by its product, over the lanes of the hand-over over the booter.
use Rattle.std.specs.Prelude.{◌≡◌, ℕ, List, Result}
use Rattle.refusal.specs.declared.Refusal.{Refusal}
use Rattle.row.specs.Lanes.{◌⊗◌, odd_factor}
use Rattle.mother.specs.Generators.{Words, Lawful}
use Rattle.lanes.specs.Order.{in_lanes}
use Rattle.keystream.specs.declared.Filter.{Ghosts}
use Rattle.keystream.specs.declared.narrow.Narrow as plain
use Rattle.keystream.specs.declared.narrow.NarrowFilter as by
use Rattle.keystream.specs.declared.narrow.NarrowOdd as odd
use Rattle.keystream.specs.Keystreams.{byte_at}
use Rattle.keystream.specs.Narrows.{multiplied, top_bytes}
use Rattle.cryptmt.specs.Equations.{Narrows, Narrow, narrow_byte_of}
use Rattle.cover.specs.Stretches.{Stretch}
use Rattle.cryptmt.specs.Wide.{wide_words}

-- what a narrow filter with the product f means
abbrev pub narrow : {F : Type 0} → (ℕ → ℕ → ℕ) → Ghosts F ℕ ℕ
narrow f = record { first = odd_factor; step = f; SIZE = 2; bytes = top_bytes }

-- the words of the lanes over the pile
abbrev pub lane_words : List ℕ → List ℕ → Words ℕ
lane_words key iv = in_lanes (wide_words key iv)

-- the keystream byte at position p: by the product of a narrow filter, by that of the narrow one, by the odd product
abbrev pub filter_byte : {F : Type 0} → by.Ghosts F → List ℕ → List ℕ → ℕ → ℕ
filter_byte {F = F} n key iv p = byte_at {F = F} (narrow n.product) (lane_words key iv) p

abbrev pub narrow_byte : List ℕ → List ℕ → ℕ → ℕ
narrow_byte key iv p = byte_at {F = plain.Narrow} (narrow multiplied) (lane_words key iv) p

abbrev pub odd_byte : List ℕ → List ℕ → ℕ → ℕ
odd_byte key iv p = byte_at {F = odd.NarrowOdd} (narrow ◌⊗◌) (lane_words key iv) p

-- k is the keystream that the equations with the step f define: there are sequences that meet them, and whatever
-- sequences meet them, the keystream byte at each position is theirs
abbrev pub DefinedBy : (ℕ → ℕ → ℕ) → (List ℕ → List ℕ → ℕ → ℕ) → Type 0
DefinedBy f k = (key iv : List ℕ) → Lawful key → Lawful iv
    → ((s : Narrows) × Narrow f key iv s)
    × ((s : Narrows) → Narrow f key iv s → (p : ℕ) → k key iv p ≡ narrow_byte_of s p)

abbrev pub FilterIsDefined : {F : Type 0} → by.Ghosts F → Type 0
FilterIsDefined n = DefinedBy n.product (filter_byte n)

abbrev pub NarrowIsDefined : Type 0
NarrowIsDefined = DefinedBy multiplied narrow_byte

abbrev pub OddIsDefined : Type 0
OddIsDefined = DefinedBy ◌⊗◌ odd_byte

-- stretches of them from position p on
abbrev pub FilterStreams : {F : Type 0}
    → by.Ghosts F → List ℕ → List ℕ → ℕ → List ℕ → Result (Unit {0}) Refusal → List ℕ → Type 0
FilterStreams n key iv = Stretch (filter_byte n key iv) key iv

abbrev pub NarrowStreams : List ℕ → List ℕ → ℕ → List ℕ → Result (Unit {0}) Refusal → List ℕ → Type 0
NarrowStreams key iv = Stretch (narrow_byte key iv) key iv

abbrev pub OddStreams : List ℕ → List ℕ → ℕ → List ℕ → Result (Unit {0}) Refusal → List ℕ → Type 0
OddStreams key iv = Stretch (odd_byte key iv) key iv
