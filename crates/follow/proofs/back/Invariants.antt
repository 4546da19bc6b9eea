use Rattle.mother.specs.Means.{means}
use Rattle.follow.proofs.Walking.{BackBy}
use Rattle.follow.proofs.back.Given as goal

abbrev pub invariant-loop-i : goal.invariant-loop-i
invariant-loop-i g l = BackBy (means g.M.Mother) g.F.Filter g.F.TwoWayFilter.held l.initial.mother l.initial.y l._i l.mother l.y
