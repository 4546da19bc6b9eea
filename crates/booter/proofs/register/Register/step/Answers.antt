use Rattle.std.proofs.Common.{refl}
use Rattle.booter.specs.Registers.{output, turned, fed, onward}
use Rattle.booter.specs.Calls.{Stepped}
use Rattle.booter.proofs.Moves.{word_at}
use Rattle.booter.proofs.register.Register.step.Goals as goal

pub returns : goal.returns
unfolding output turned fed onward
returns c =
    let e : Stepped c.args.self.now _ _ =
    record {
      height = refl;
      first = c.output-output.ensures;
      second = rw (c.wrapping_sub-fed.ensures, c.perm_shift1.ensures, c.output-output.ensures, c.turned-accumulator.ensures);
      moved = rw (
        c.wrapping_sub-fed.ensures,
        c.perm_shift1.ensures,
        c.output-output.ensures,
        c.turned-accumulator.ensures,
        c.wrapped-self.ensures.is,
      );
    } in
    record { pair = e; word = word_at _ _ _ e }
