use Rattle.std.proofs.Common.{◌≡◌}
use Rattle.booter.specs.Registers.{ahead}
use Rattle.booter.specs.Calls.{held}
use Rattle.booter.proofs.register.Register.idle.Given as goal

abbrev pub invariant-loop : goal.invariant-loop
invariant-loop l =
    (l.self.height ≡ l.initial.self.height)
    × (held l.self ≡ ahead l.initial.self.height l.counter (held l.initial.self))
