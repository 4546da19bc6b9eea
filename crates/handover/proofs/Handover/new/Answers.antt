use Rattle.std.proofs.Common.{refl, arith}
use Rattle.handover.proofs.Moves.{nothing_held}
use Rattle.handover.proofs.Handover.new.Goals as goal

pub returns : goal.returns
returns g c =
    record {
      below = refl;
      place = c.front.ensures;
      sound = λ s p. record { sound = s; place = omega (arith, p); held = nothing_held _ c.new.result _ c.front.ensures };
    }
