-- Moves from place to place in a list of 2 ^ 34 words.
use Rattle.std.specs.Prelude.{◌≡◌, ℕ, ◌+◌, ◌-◌, ◌<◌, ◌≤◌, Ok, Err, Result}
use Rattle.refusal.specs.declared.Refusal.{Refusal}
use Rattle.refusal.specs.Numbers.{numbered}
use Rattle.mother.specs.Generators.{limit}

-- k places on; refused by 15 exactly where these would pass the limit
abbrev pub Passed : ℕ → ℕ → Result ℕ Refusal → Type 0
Passed n k (Ok n') = (n + k ≤ limit) × (n' ≡ n + k)
Passed n k (Err e) = (limit < n + k) × (numbered e ≡ 15)

-- k places back; refused by 14 exactly where these would pass the front
abbrev pub Preceded : ℕ → ℕ → Result ℕ Refusal → Type 0
Preceded n k (Ok n') = (k ≤ n) × (n' ≡ n - k)
Preceded n k (Err e) = (n < k) × (numbered e ≡ 14)

-- one place on; refused by 15 exactly at the limit
abbrev pub After : ℕ → Result ℕ Refusal → Type 0
After n (Ok n') = (n < limit) × (n' ≡ n + 1)
After n (Err e) = (n ≡ limit) × (numbered e ≡ 15)

-- one place back; refused by 14 exactly at place 0
abbrev pub Before : ℕ → Result ℕ Refusal → Type 0
Before n (Ok n') = (0 < n) × (n' ≡ n - 1)
Before n (Err e) = (n ≡ 0) × (numbered e ≡ 14)
