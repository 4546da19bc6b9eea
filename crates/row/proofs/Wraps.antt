-- Indices into a ring of s, turned on and back.
use Rattle.std.proofs.Common.{◌≡◌, ℕ, ◌+◌, ◌-◌, ◌<◌, ◌≤◌, ◌≢◌, ◌⊎◌, ap, ◌∙◌, inl, inr, add-zero, arith}
use Rattle.std.proofs.lemmas.Bool.{cond-true, cond-false, lt-ltb, le-ltb, cases_lt}
use Rattle.row.specs.Ring.{wrap}

pub wrap_low : (s n : ℕ) → n < s → wrap s n ≡ n
unfolding wrap
wrap_low s n h = cond-true _ _ _ (lt-ltb n s h)

pub wrap_high : (s n : ℕ) → s ≤ n → wrap s n ≡ n - s
unfolding wrap
wrap_high s n h = cond-false _ _ _ (le-ltb n s h)

-- the two ways that an index goes
pub wrap_ways : (s n : ℕ) → ((n < s) × (wrap s n ≡ n)) ⊎ ((s ≤ n) × (wrap s n + s ≡ n))
wrap_ways s n =
    elim (cases_lt n s) [ inl h ↦ inl (h, wrap_low s n h) | inr h ↦ inr (h, omega (arith, wrap_high s n h)) ]

pub wrap_below : (s n : ℕ) → n < s + s → wrap s n < s
wrap_below s n h = elim (wrap_ways s n) [ inl e ↦ omega arith | inr e ↦ omega arith ]

pub wrap_zero : (s head : ℕ) → head < s → wrap s (head + 0) ≡ head
wrap_zero s head h = ap (wrap s) (add-zero head) ∙ wrap_low s head h

-- an index k of a ring turned by one is k + 1 of the ring before
pub wrap_more : (s head k : ℕ) → head < s → k + 1 < s → wrap s (wrap s (head + 1) + k) ≡ wrap s (head + (k + 1))
wrap_more s head k h l = grind (arith, wrap_ways s (head + 1), wrap_ways s (wrap s (head + 1) + k), wrap_ways s (head + (k + 1)))

pub wrap_first : (s head : ℕ) → head < s → wrap s (wrap s (head + 1) + (s - 1)) ≡ head
wrap_first s head h = grind (arith, wrap_ways s (head + 1), wrap_ways s (wrap s (head + 1) + (s - 1)))

pub wrap_less : (s head k : ℕ) → head < s → k + 1 < s → wrap s (wrap s (head + (s - 1)) + (k + 1)) ≡ wrap s (head + k)
wrap_less s head k h l = grind (arith, wrap_ways s (head + (s - 1)), wrap_ways s (wrap s (head + (s - 1)) + (k + 1)), wrap_ways s (head + k))

pub wrap_last : (s head : ℕ) → head < s → wrap s (wrap s (head + (s - 1)) + 1) ≡ head
wrap_last s head h = grind (arith, wrap_ways s (head + (s - 1)), wrap_ways s (wrap s (head + (s - 1)) + 1))

-- two places less than a turn apart differ
pub wrap_apart : (s head i k : ℕ) → head < s → i < k → k < s → wrap s (head + i) ≢ wrap s (head + k)
wrap_apart s head i k h a b e = grind (arith, wrap_ways s (head + i), wrap_ways s (head + k))
