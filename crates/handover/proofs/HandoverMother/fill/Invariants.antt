use Rattle.mother.specs.Generators.{Filled}
use Rattle.mother.specs.Means.{means}
use Rattle.handover.specs.Means.{handed}
use Rattle.handover.proofs.HandoverMother.fill.Given as goal

abbrev pub invariant-loop-word : goal.invariant-loop-word
invariant-loop-word g l =
    (handed (means g.M.Mother)).sound l.initial.self
    → Filled (handed (means g.M.Mother)) l.initial.self l.word-index l.self l.words
