-- Indices into a ring.
use Rattle.std.specs.Prelude.{ℕ, ◌-◌, cond, nat_lt}

-- an index into a ring of H that may have passed the end once
unfoldable pub wrap : ℕ → ℕ → ℕ
wrap H n = cond (nat_lt n H) n (n - H)
