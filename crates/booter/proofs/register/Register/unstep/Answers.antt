use Rattle.std.proofs.Common.{refl}
use Rattle.booter.specs.Registers.{output_before, turned_before, oldest_before, backward}
use Rattle.booter.specs.Calls.{Unstepped}
use Rattle.booter.proofs.Moves.{word_before_it}
use Rattle.booter.proofs.register.Register.unstep.Goals as goal

pub returns : goal.returns
unfolding output_before turned_before oldest_before backward
returns c =
    let e : Unstepped c.args.self.now _ _ = record { height = refl; first = cc; second = cc; moved = cc } in
    record { pair = e; word = word_before_it _ _ _ e }
