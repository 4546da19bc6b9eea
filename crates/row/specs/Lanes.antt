-- A lane is a number below 2 ^ 32, and these are its wrapping operations.
use Rattle.std.specs.Prelude.{ℕ, ◌+◌, ◌-◌, ◌*◌, ◌%◌, ◌^◌, ◌<◌, bit_or, bit_xor}

infixl 70 ◌⊗◌ ◌⊘◌
abbrev pub Lane : ℕ → Type 0
Lane x = x < 2 ^ 32

abbrev pub plus : ℕ → ℕ → ℕ
plus x y = (x + y) % 2 ^ 32

abbrev pub minus : ℕ → ℕ → ℕ
minus x y = (x + (2 ^ 32 - y)) % 2 ^ 32

abbrev pub times : ℕ → ℕ → ℕ
times x y = (x * y) % 2 ^ 32

-- x ⊗ y, the odd product: 2 (x ⊗ y) + 1 is (2 x + 1) (2 y + 1) modulo 2 ^ 33
unfoldable pub ◌⊗◌ : ℕ → ℕ → ℕ
◌⊗◌ x y = (2 * x * y + x + y) % 2 ^ 32

-- x with its lowest bit set, a factor that can be undone
abbrev pub odd_factor : ℕ → ℕ
odd_factor x = bit_or x 1

-- Newton's step towards the inverse of a: twice as many low bits of a * i are those of 1
unfoldable pub nearer : ℕ → ℕ → ℕ
nearer a i = times i (minus 2 (times a i))

-- right in its low 4 bits where a is odd
unfoldable pub guess : ℕ → ℕ
guess a = bit_xor (times 3 a) 2

-- the inverse of an odd a modulo 2 ^ 32
unfoldable pub inverse : ℕ → ℕ
inverse a = nearer a (nearer a (nearer a (guess a)))

-- the odd quotient: the y with y ⊗ x ≡ z
unfoldable pub ◌⊘◌ : ℕ → ℕ → ℕ
◌⊘◌ z x = times (minus z x) (inverse (plus (times 2 x) 1))
