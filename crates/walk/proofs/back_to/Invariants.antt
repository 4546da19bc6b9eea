use Rattle.std.proofs.Common.{◌+◌, ◌-◌, ◌<◌}
use Rattle.mother.specs.Means.{means}
use Rattle.walk.proofs.Going.{Went}
use Rattle.walk.proofs.back_to.Given as goal

abbrev pub invariant-loop-i : goal.invariant-loop-i
invariant-loop-i g l =
    let n = g.M.Mother.place l.initial.mother in
    g.M.Mother.sound l.initial.mother → l.place < n
    → Went (means g.M.Mother) l.initial.mother l.mother (n - (l._i - (l.place + 1)))
