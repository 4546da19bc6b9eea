-- A hex digit that is read.
use Rattle.std.specs.Prelude.{◌≡◌, ℕ, Some, None, Ok, Err, Result}
use Rattle.digits.specs.declared.HexError.{HexError}
use Rattle.digits.specs.declared.HexError.TheVariants.{NoDigit}
use Rattle.digits.specs.Digits.{nibble_of}

-- its value, or that it is no digit
abbrev pub ReadsDigit : ℕ → Result ℕ HexError → Type 0
ReadsDigit b (Ok v) = nibble_of b ≡ Some v
ReadsDigit b (Err e) = (nibble_of b ≡ None) × (e ≡ NoDigit b)
