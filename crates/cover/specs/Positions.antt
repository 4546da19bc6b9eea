-- Positions of a keystream.
use Rattle.std.specs.Prelude.{◌≡◌, ℕ, ◌+◌, ◌^◌, ◌<◌, ◌≤◌, Ok, Err, Result}
use Rattle.refusal.specs.declared.Refusal.{Refusal}
use Rattle.refusal.specs.Numbers.{numbered}

-- n bytes on; refused by 13 exactly where these would pass the last position
abbrev pub Passed : ℕ → ℕ → Result ℕ Refusal → Type 0
Passed p n (Ok q) = (p + n ≤ 2 ^ 32) × (q ≡ p + n)
Passed p n (Err e) = (2 ^ 32 < p + n) × (numbered e ≡ 13)
