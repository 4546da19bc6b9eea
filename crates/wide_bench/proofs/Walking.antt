-- A walk from a set-up on, and back again.
use Rattle.std.proofs.Common.{◌≡◌, ℕ, ◌+◌, ◌-◌, List, Ok, Err, Result, ap, ◌∙◌, inr, arith}
use Rattle.refusal.specs.declared.Refusal.{Refusal}
use Rattle.row.specs.declared.Row.{Row}
use Rattle.mother.specs.Generators.{Words, Generator, Lawful}
use Rattle.keystream.specs.declared.Filter.{Ghosts}
use Rattle.keystream.specs.Keystreams.{memory}
use Rattle.follow.specs.Follows.{Follows, Begins, GoesOn, GoesBack}
use Rattle.wide_bench.specs.Walks.{Walked}

module _ {M F : Type 0} (m : Generator M Row) (f : Ghosts F Row Row) (key iv : List ℕ) (ws : Words Row) (k : ℕ)
    (lk : Lawful key) (li : Lawful iv) where
  pub refused_on : (s t : M) (first : Row) (e : Refusal) (P : Row → Type 0) → Follows m f s first ws 0
      → GoesOn m f s first k (Err e) t → Walked P key iv k (Err e)
  refused_on s t first e P fo on = let went = on ws 0 fo in inr (lk, li, omega (arith, went.0), went.1)

  pub told_on : (s t : M) (first : Row) (r : Result Row Refusal) → Follows m f s first ws 0 → GoesOn m f s first k r t
      → Walked (λ y. y ≡ memory f ws k) key iv k r
  told_on s t first (Ok y) fo on =
      let went = on ws 0 fo in
      let same : 0 + k ≡ k = omega arith in
      (lk, li, omega (arith, went.0), went.1.memory ∙ ap (memory f ws) same)
  told_on s t first (Err e) fo on = refused_on s t first e (λ y. y ≡ memory f ws k) fo on

  pub told_back : (held : Row → Type 0) (s t u : M) (first far : Row) (r : Result Row Refusal) → Begins m f held ws → Follows m f s first ws 0
      → GoesOn m f s first k (Ok far) t → GoesBack m f held t far k r u → Walked (λ y. y ≡ f.first ws.start) key iv k r
  told_back held s t u first far (Ok y) begins fo on back =
      let went = on ws 0 fo in
      let same : 0 + k - k ≡ 0 = omega arith in
      (lk, li, omega (arith, went.0), (back ws (0 + k) begins went.1).1.memory ∙ ap (memory f ws) same)
  told_back held s t u first far (Err e) begins fo on back =
      let went = on ws 0 fo in absurd (omega (arith, (back ws (0 + k) begins went.1).0))
