use Rattle.std.proofs.Common.{◌+◌, ◌≤◌, length, arith}
use Rattle.mother.specs.Generators.{limit}
use Rattle.mother.specs.Means.{means}
use Rattle.mother.proofs.Filling.{filled_more, filled_all}
use Rattle.handover.specs.Means.{handed}
use Rattle.handover.proofs.HandoverMother.fill.Goals as goal

pub loop-word-preserved : goal.loop-word-preserved
loop-word-preserved g c sound =
    filled_more (handed (means g.M.Mother)) c.args.self.now c.loop-word.word-index c.loop-word.self c.next.new.self
    c.loop-word.words _ (omega arith) (c.loop-word.invariant sound) c.in_ok-word.ensures

pub returns-after-loop-word : goal.returns-after-loop-word
returns-after-loop-word g c sound =
    let low : c.args.self.now.at + length c.args.words.now ≤ limit = omega arith in
    filled_all (handed (means g.M.Mother)) c.args.self.now c.loop-word.word-index c.loop-word.self c.args.words.now
    c.loop-word.words (omega arith) c.loop-word.auto.words low (c.loop-word.invariant sound) sound
