use Rattle.std.proofs.Common.{ℕ, ◌+◌, ◌*◌, ◌^◌, ◌≤◌}
use Rattle.mother.specs.Generators.{Words}
use Rattle.mother.specs.Means.{means}
use Rattle.cover.specs.Covers.{Ready}
use Rattle.cover.proofs.range.pass.Given as goal

abbrev pub invariant-loop : goal.invariant-loop
invariant-loop g l =
    (ws : Words g.row.M-Word.Denot) (p : ℕ) → Ready (means g.M.Mother) g.F.Filter l.initial.cover ws p → p + l.count ≤ 2 ^ 32
    → Ready (means g.M.Mother) g.F.Filter l.cover ws (p + 4096 * l.counter)
