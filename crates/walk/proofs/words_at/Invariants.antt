use Rattle.std.proofs.Common.{vec_items}
use Rattle.mother.specs.Means.{means}
use Rattle.walk.specs.Visits.{Among}
use Rattle.walk.proofs.Going.{Seen}
use Rattle.walk.proofs.words_at.Given as goal

abbrev pub invariant-loop-place : goal.invariant-loop-place
invariant-loop-place g l =
    let m = means g.M.Mother in
    g.M.Mother.sound l.initial.mother
    → Among m l.initial.mother l.mother × Seen m l.initial.mother l.places l.place-index (vec_items l.words)
