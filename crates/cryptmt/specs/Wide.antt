-- The wide keystream: the wide filter over the hand-over over the booter.
use Rattle.std.specs.Prelude.{◌≡◌, ℕ, List, Result}
use Rattle.refusal.specs.declared.Refusal.{Refusal}
use Rattle.row.specs.declared.Row.{Row}
use Rattle.mother.specs.Generators.{Words, Lawful}
use Rattle.booter.specs.Sequences as booter
use Rattle.handover.specs.Recursion.{over}
use Rattle.keystream.specs.declared.Filter.{Ghosts}
use Rattle.keystream.specs.declared.wide.Wide.{Wide}
use Rattle.keystream.specs.Keystreams.{byte_at}
use Rattle.keystream.specs.Wides.{stepped, output_bytes}
use Rattle.cover.specs.Stretches.{Stretch}
use Rattle.cryptmt.specs.Equations.{Sequences, CryptMT, byte_of}

-- what the wide filter means
abbrev pub wide : Ghosts Wide Row Row
wide = record { first = λ start. start; step = stepped; SIZE = 16; bytes = output_bytes }

-- the words of the pile
abbrev pub wide_words : List ℕ → List ℕ → Words Row
wide_words key iv = over (booter.words key iv)

-- the keystream byte at position p
abbrev pub wide_byte : List ℕ → List ℕ → ℕ → ℕ
wide_byte key iv p = byte_at wide (wide_words key iv) p

-- the keystream is the cipher's: there are sequences that meet its equations, and whatever sequences meet them,
-- the keystream byte at each position is theirs
abbrev pub WideIsCryptMT : Type 0
WideIsCryptMT = (key iv : List ℕ) → Lawful key → Lawful iv
    → ((s : Sequences) × CryptMT key iv s) × ((s : Sequences) → CryptMT key iv s → (p : ℕ) → wide_byte key iv p ≡ byte_of s p)

-- a stretch of the keystream from position p on
abbrev pub WideStreams : List ℕ → List ℕ → ℕ → List ℕ → Result (Unit {0}) Refusal → List ℕ → Type 0
WideStreams key iv = Stretch (wide_byte key iv) key iv
