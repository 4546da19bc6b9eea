use Rattle.std.proofs.Common.{◌≡◌, ℕ, ◌+◌, ◌^◌, ◌≤◌, length, Option, subst, arith}
use Rattle.mother.specs.Means.{means}
use Rattle.cover.specs.declared.stage.Stage.{Stage}
use Rattle.cover.specs.Covers.{Staged}
use Rattle.cover.proofs.Cover.cover.Goals as goal

pub returns-in_err-cover_all : goal.returns-in_err-cover_all
returns-in_err-cover_all g c = (
  λ e. let z : ◌≡◌ {A = ℕ} 0 1 = cc (c.in-Some.is, e) in absurd (omega arith),
  λ ws p ready.
      let S : Option (Stage g.row.F-Memory.Denot) → Type 0 = λ o. Staged (means g.M.Mother) g.F.Filter c.args.self.now.mother o ws p in
      let at = subst S c.in-Some.is ready in
      absurd (c.in_err-cover_all.ensures ws p at (omega (arith, at.position))),
)

pub returns : goal.returns
returns g c = (
  λ e. let z : ◌≡◌ {A = ℕ} 0 1 = cc (c.in-Some.is, e) in omega arith,
  λ ws p ready.
      let bytes = c.args.bytes.now in
      let S : Option (Stage g.row.F-Memory.Denot) → Type 0 = λ o. Staged (means g.M.Mother) g.F.Filter c.args.self.now.mother o ws p in
      let at = subst S c.in-Some.is ready in
      let low : p + length bytes ≤ 2 ^ 32 = omega (arith, at.position) in
      let all = c.in_ok-cover_all.ensures ws p at low in
      (low, at.position, all.0, all.1, all.2),
)
