-- What a line asks for.
use Rattle.std.specs.Prelude.{ℕ, cond, List, Some, None, codes, Option, nat_le}
use Rattle.std.specs.Str.{bytes_eq}
use Rattle.digits.specs.Digits.{◌⟫◌, hex_of, decimal_of}
use Rattle.digits.specs.Lines.{field_of, head_of}
use Rattle.query.specs.declared.Kind.{Kind}
use Rattle.query.specs.declared.Kind.TheVariants.{Wide}

-- count keystream bytes of a kind, from position from on
pub record Asked : Type 0 where
  pub kind : Kind
  pub key : List ℕ
  pub iv : List ℕ
  pub from : ℕ
  pub count : ℕ

-- the kind of a name
abbrev pub kind_of : List ℕ → Option Kind
kind_of name = cond (bytes_eq name (codes "wide")) (Some Wide) None

-- a value up to a limit
abbrev pub up_to : ℕ → ℕ → Option ℕ
up_to most n = cond (nat_le n most) (Some n) None

-- how many bytes a line asks for: a decimal number up to 4096
abbrev pub count_of : List ℕ → Option ℕ
count_of bs = decimal_of bs ⟫ up_to 4096

-- what a line KIND KEY IV FROM COUNT asks for. The last field is all that is left, so a sixth field would be part of it
abbrev pub query_of : List ℕ → Option Asked
query_of line =
    head_of kind_of line ⟫ λ h.
    field_of h.rest ⟫ λ part.
    hex_of h.key ⟫ λ key.
    hex_of h.iv ⟫ λ iv.
    decimal_of part.0 ⟫ λ from.
    count_of part.1 ⟫ λ count.
    Some (record { kind = h.kind; key = key; iv = iv; from = from; count = count })
