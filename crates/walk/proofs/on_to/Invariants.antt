use Rattle.mother.specs.Means.{means}
use Rattle.walk.proofs.Going.{Went}
use Rattle.walk.proofs.on_to.Given as goal

abbrev pub invariant-loop-i : goal.invariant-loop-i
invariant-loop-i g l = g.M.Mother.sound l.initial.mother → Went (means g.M.Mother) l.initial.mother l.mother l._i
