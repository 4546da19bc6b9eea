use Rattle.std.proofs.Common.{◌+◌, ◌≤◌, length, arith}
use Rattle.std.proofs.lemmas.Result.{err_from_is_err_and}
use Rattle.mother.specs.Generators.{Generator, generator, limit}
use Rattle.mother.proofs.Filling.{filled_none, filled_more, filled_all, not_refused}
use Rattle.mother.proofs.Mother.fill.Given as given
use Rattle.mother.proofs.Mother.fill.Goals as goal

abbrev means : (g : given.Over) → Generator g.row.Self.Denot g.row.Self-Word.Denot
means g = generator g.Self.Mother.start g.Self.Mother.word g.Self.Mother.place g.Self.Mother.given g.Self.Mother.sound

pub loop-word-init : goal.loop-word-init
loop-word-init g c sound = filled_none (means g) c.args.self.now c.args.words.now sound

pub returns-in_err-word : goal.returns-in_err-word
returns-in_err-word g c =
    let p = err_from_is_err_and c.from_residual-in_err-word.result c.from_residual-in_err-word.ensures.1 in
    rw p.1 (λ sound.
    let low : g.Self.Mother.place c.args.self.now + length c.args.words.now ≤ limit = omega (arith, c.place.ensures, c.in_ok-past.ensures.0) in
    absurd (not_refused (means g) c.args.self.now c.loop-word.word-index (length c.args.words.now) c.loop-word.self c.next.new.self
    c.loop-word.words _ (omega arith) low (c.loop-word.invariant sound) c.in_err-word.ensures))

pub loop-word-preserved : goal.loop-word-preserved
loop-word-preserved g c sound =
    filled_more (means g) c.args.self.now c.loop-word.word-index c.loop-word.self c.next.new.self c.loop-word.words _
    (omega arith) (c.loop-word.invariant sound) c.in_ok-word.ensures

pub returns : goal.returns
returns g c sound =
    let low : g.Self.Mother.place c.args.self.now + length c.args.words.now ≤ limit = omega (arith, c.place.ensures, c.in_ok-past.ensures.0) in
    filled_all (means g) c.args.self.now c.loop-word.word-index c.loop-word.self c.args.words.now c.loop-word.words
    (omega arith) c.loop-word.auto.words low (c.loop-word.invariant sound) sound
