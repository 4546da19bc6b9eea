-- What a hand-over means, by what the generator below means.
use Rattle.row.specs.declared.Row.{Row}
use Rattle.mother.specs.Generators.{Generator, generator}
use Rattle.handover.specs.declared.Handover.{Handover}
use Rattle.handover.specs.Recursion.{later, over}
use Rattle.handover.specs.Calls.{Joined}

abbrev pub handed : {S : Type 0} → Generator S Row → Generator (Handover S) Row
handed m =
    generator (λ s. m.start s.below) (λ s. later (m.word s.below)) (λ s. s.at)
    (λ s key iv. over (m.given s.below key iv)) (λ s. Joined m s.below s.ring s.at)
