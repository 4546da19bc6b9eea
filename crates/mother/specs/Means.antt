-- What the implementation of `Mother` for a type says, as one generator.
use Rattle.mother.specs.declared.Mother.{Ghosts}
use Rattle.mother.specs.Generators.{Generator, generator}

abbrev pub means : {S W : Type 0} → Ghosts S W → Generator S W
means m = generator m.start m.word m.place m.given m.sound
