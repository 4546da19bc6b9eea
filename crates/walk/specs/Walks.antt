-- Walks of a two-way generator from place to place.
use Rattle.std.specs.Prelude.{◌≡◌, ℕ, ◌+◌, ◌<◌, ◌≤◌, cond, Ok, Err, Result, nat_le}
use Rattle.refusal.specs.declared.Refusal.{Refusal}
use Rattle.refusal.specs.Numbers.{numbered}
use Rattle.mother.specs.Generators.{Generator, Stays, limit}

module _ {S W : Type 0} (m : Generator S W) where
  -- w is the word at place p, the words stay, and the generator now stands at n
  pub record Shows (s : S) (p : ℕ) (w : W) (s' : S) (n : ℕ) : Type 0 where
    pub sound : m.sound s'
    pub word : w ≡ m.word s p
    pub stays : Stays m s s' n

  -- a walk on ends behind the word, and one back before it
  abbrev pub MovedOn : S → ℕ → Result W Refusal → S → Type 0
  MovedOn s p (Ok w) s' = m.sound s → m.place s ≤ p → p < limit → Shows s p w s' (p + 1)
  MovedOn s p (Err e) s' = m.sound s → m.place s ≤ p → p < limit → ⊥

  abbrev pub MovedBack : S → ℕ → Result W Refusal → S → Type 0
  MovedBack s p (Ok w) s' = m.sound s → p < m.place s → Shows s p w s' p
  MovedBack s p (Err e) s' = m.sound s → p < m.place s → ⊥

  -- the word at place p, by moves on or back; refused by 15 exactly where there is none, and then all stays
  abbrev pub Walked : S → ℕ → Result W Refusal → S → Type 0
  Walked s p (Ok w) s' = m.sound s → (p < limit) × Shows s p w s' (cond (nat_le (m.place s) p) (p + 1) p)
  Walked s p (Err e) s' =
      m.sound s → (limit ≤ p) × (numbered e ≡ 15) × m.sound s' × Stays m s s' (m.place s)
