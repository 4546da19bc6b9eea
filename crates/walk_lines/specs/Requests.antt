-- What a line asks for.
use Rattle.std.specs.Prelude.{ℕ, cond, List, Some, None, codes, Option}
use Rattle.std.specs.Str.{bytes_eq}
use Rattle.digits.specs.Digits.{◌⟫◌, hex_of}
use Rattle.digits.specs.Cuts.{decimals_of}
use Rattle.digits.specs.Lines.{head_of}
use Rattle.walk_lines.specs.declared.request.Kind.{Kind}
use Rattle.walk_lines.specs.declared.request.Kind.TheVariants.{Booter, Handover, Lanes}

-- the words at places of a kind of generator
pub record Asked : Type 0 where
  pub kind : Kind
  pub key : List ℕ
  pub iv : List ℕ
  pub places : List ℕ

-- the kind of a name
abbrev pub kind_of : List ℕ → Option Kind
kind_of name =
    cond (bytes_eq name (codes "booter")) (Some Booter)
    (cond (bytes_eq name (codes "handover")) (Some Handover)
    (cond (bytes_eq name (codes "lanes")) (Some Lanes) None))

-- what a line KIND KEY IV PLACES asks for: its places are decimal numbers with single commas between them
abbrev pub request_of : List ℕ → Option Asked
request_of line =
    head_of kind_of line ⟫ λ h.
    hex_of h.key ⟫ λ key.
    hex_of h.iv ⟫ λ iv.
    decimals_of 44 h.rest ⟫ λ places.
    Some (record { kind = h.kind; key = key; iv = iv; places = places })
