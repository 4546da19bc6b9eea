-- Numbers in decimal and bytes in hex, as text.
use Rattle.std.specs.Prelude.{ℕ, ◌+◌, ◌-◌, ◌*◌, ◌/◌, ◌%◌, cond, ◌&&◌, List, [], ◌∷◌, ◌++◌, length, Some, None, Option, nat_le, nat_lt, slice_index, flat_map}

-- from a value to what is made of it, and from none to none
infixl 20 ◌⟫◌
abbrev pub ◌⟫◌ : {A B : Type 0} → Option A → (A → Option B) → Option B
None ⟫ f = None
Some x ⟫ f = f x

-- what stands before what the rest gives
abbrev pub prefixed : List ℕ → Option (List ℕ) → Option (List ℕ)
prefixed xs None = None
prefixed xs (Some r) = Some (xs ++ r)

-- what f gives of each part, if it gives something of all
abbrev pub each : (List ℕ → Option ℕ) → List (List ℕ) → Option (List ℕ)
each f [] = Some []
each f (p ∷ ps) = f p ⟫ λ n. prefixed (n ∷ []) (each f ps)

-- the value of a hex digit: 0 to 9 and a to f
abbrev pub nibble_of : ℕ → Option ℕ
nibble_of b =
    cond (nat_le 48 b && nat_le b 57) (Some (b - 48))
    (cond (nat_le 97 b && nat_le b 102) (Some (b - 97 + 10)) None)

-- the byte of two hex digits
abbrev pub byte_of : ℕ → ℕ → Option ℕ
byte_of a b = nibble_of a ⟫ λ high. nibble_of b ⟫ λ low. Some (high * 16 + low)

abbrev pub pair_of : List ℕ → Option ℕ
pair_of pair = byte_of (slice_index pair 0) (slice_index pair 1)

-- the bytes that pairs of hex digits spell
abbrev pub hex_of : List ℕ → Option (List ℕ)
hex_of [] = Some []
hex_of (a ∷ []) = None
hex_of (a ∷ b ∷ rest) = byte_of a b ⟫ λ n. prefixed (n ∷ []) (hex_of rest)

-- decimal digits after those that make n
abbrev pub decimal_after : ℕ → List ℕ → Option ℕ
decimal_after n [] = Some n
decimal_after n (b ∷ bs) = cond (nat_le 48 b && nat_le b 57) (decimal_after (n * 10 + (b - 48)) bs) None

-- a decimal number of 1 to 10 digits
abbrev pub decimal_of : List ℕ → Option ℕ
decimal_of bs = cond (nat_le 1 (length bs) && nat_le (length bs) 10) (decimal_after 0 bs) None

-- the hex digit of a value below 16
abbrev pub digit_of : ℕ → ℕ
digit_of v = cond (nat_lt v 10) (v + 48) (v - 10 + 97)

-- a byte as two hex digits, the higher one first
abbrev pub spelled_byte : ℕ → List ℕ
spelled_byte b = digit_of (b / 16) ∷ digit_of (b % 16) ∷ []

-- bytes as hex
abbrev pub spelled : List ℕ → List ℕ
spelled bytes = flat_map spelled_byte bytes
