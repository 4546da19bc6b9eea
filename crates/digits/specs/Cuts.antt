-- A text cut at its separators.
use Rattle.std.specs.Prelude.{ℕ, ◌+◌, List, take, drop, position, Option, ◌==◌}
use Rattle.std.specs.Borrow.{Bor}
use Rattle.std.specs.List.{slice_split}
use Rattle.std.specs.Option.{option_map}
use Rattle.digits.specs.Digits.{decimal_of, each}

-- what two lent texts hold
abbrev pub both : Bor (List ℕ) × Bor (List ℕ) → List ℕ × List ℕ
both p = (p.0.now, p.1.now)

-- what stands before the first separator, and what stands after it
abbrev pub cut_of : ℕ → List ℕ → Option (List ℕ × List ℕ)
cut_of s text = option_map (λ i. (take i text, drop (i + 1) text)) (position (λ b. b == s) text)

-- the pieces of a text between its separators: one more than there are separators
abbrev pub pieces_of : ℕ → List ℕ → List (List ℕ)
pieces_of s = slice_split (λ b. b == s)

-- decimal numbers with single separators between them
abbrev pub decimals_of : ℕ → List ℕ → Option (List ℕ)
decimals_of s text = each decimal_of (pieces_of s text)
