use Rattle.handover.specs.Calls.{Turning}
use Rattle.handover.proofs.ring.Ring.forward_into.Given as goal

abbrev pub invariant-loop-word : goal.invariant-loop-word
invariant-loop-word l = Turning l.initial.self l.self.rows l.head l.middle l.newest l.word-index l.words
