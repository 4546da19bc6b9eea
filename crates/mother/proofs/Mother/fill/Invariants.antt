use Rattle.mother.specs.Generators.{Filled, generator}
use Rattle.mother.proofs.Mother.fill.Given as goal

abbrev pub invariant-loop-word : goal.invariant-loop-word
invariant-loop-word g l =
    let m = generator g.Self.Mother.start g.Self.Mother.word g.Self.Mother.place g.Self.Mother.given g.Self.Mother.sound in
    m.sound l.initial.self → Filled m l.initial.self l.word-index l.self l.words
