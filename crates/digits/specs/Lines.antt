-- The lines of the tools: their first fields, and how they are parsed.
use Rattle.std.specs.Prelude.{◌≡◌, ℕ, cond, List, length, Some, None, Ok, Err, Option, Result, nat_le}
use Rattle.digits.specs.declared.HexError.{HexError}
use Rattle.digits.specs.declared.HexError.TheVariants as hex
use Rattle.digits.specs.declared.fields.ListError.{ListError}
use Rattle.digits.specs.declared.fields.ListError.TheVariants as list
use Rattle.digits.specs.declared.line.LineError.{LineError}
use Rattle.digits.specs.declared.line.LineError.TheVariants.{Malformed, NoMemory}
use Rattle.digits.specs.Digits.{◌⟫◌}
use Rattle.digits.specs.Cuts.{cut_of}

-- the first field of a text, and what stands after the space that ends it
abbrev pub field_of : List ℕ → Option (List ℕ × List ℕ)
field_of = cut_of 32

-- KIND KEY IV, the key and the IV as they are written, and all that is left of a line
pub record Heading (K : Type 0) : Type 0 where
  pub kind : K
  pub key : List ℕ
  pub iv : List ℕ
  pub rest : List ℕ

-- what a line of at most 4096 bytes begins with: the name of a kind, as named reads it, a key and an IV
abbrev pub head_of : {K : Type 0} → (List ℕ → Option K) → List ℕ → Option (Heading K)
head_of named line =
    cond (nat_le (length line) 4096) (field_of line) None ⟫ λ a.
    field_of a.1 ⟫ λ b.
    field_of b.1 ⟫ λ c.
    named a.0 ⟫ λ kind.
    Some (record { kind = kind; key = b.0; iv = c.0; rest = c.1 })

-- a part of a line is found, or the line is malformed
abbrev pub Found : {P A : Type 0} → Option A → (P → A) → Result P LineError → Type 0
Found part held (Ok p) = part ≡ Some (held p)
Found part held (Err e) = (part ≡ None) × (e ≡ Malformed)

-- a line is parsed exactly where it asks for something; want of memory says nothing of it
abbrev pub Parses : {Q A : Type 0} → (List ℕ → Option A) → (Q → A) → List ℕ → Result Q LineError → Type 0
Parses means asked line (Ok q) = means line ≡ Some (asked q)
Parses means asked line (Err Malformed) = means line ≡ None
Parses means asked line (Err (NoMemory e)) = Unit {0}

-- what is wrong with hex digits, and with a list of numbers
abbrev pub malformed_by_hex : HexError → LineError
malformed_by_hex hex.OddLength = Malformed
malformed_by_hex (hex.NoDigit b) = Malformed
malformed_by_hex (hex.NoMemory e) = NoMemory e

abbrev pub malformed_by_list : ListError → LineError
malformed_by_list list.NoNumber = Malformed
malformed_by_list (list.NoMemory e) = NoMemory e
