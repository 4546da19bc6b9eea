use Rattle.std.proofs.Common.{arith}
use Rattle.handover.proofs.Into.{turning_none, turning_next, turned_into}
use Rattle.handover.proofs.ring.Ring.forward_into.Goals as goal

pub loop-word-init : goal.loop-word-init
loop-word-init c =
    turning_none c.args.self.now c.args.words.now _ _ (c.wrapped-middle.ensures.below (omega arith))
    c.wrapped-middle.ensures.is c.at-newest.ensures

pub loop-word-preserved : goal.loop-word-preserved
loop-word-preserved c =
    turning_next c.args.self.now c.loop-word.self.rows c.loop-word.head c.loop-word.middle _ _ c.loop-word.newest _
    c.loop-word.word-index c.loop-word.words c.loop-word.invariant (omega arith) c.step-newest.ensures
    c.wrapped-head.ensures.is c.wrapped-middle-in-loop-word.ensures.is

pub returns : goal.returns
returns c = turned_into c.args.self.now _ c.loop-word.middle c.loop-word.newest c.loop-word.word-index c.loop-word.words (omega arith) c.loop-word.invariant
