use Rattle.row.proofs.Wraps.{wrap_zero}
use Rattle.handover.specs.Calls.{TurnedOn}
use Rattle.handover.proofs.Moves.{goes_on}
use Rattle.handover.proofs.ring.Ring.forward.Goals as goal

pub returns : goal.returns
returns c =
    let s = c.args.self.now in
    let e : TurnedOn s c.newer-new.result _ =
    record {
      row = c.newer-new.ensures;
      rows = rw (c.newer-new.ensures, wrap_zero 156 s.head s.inside);
      head = c.wrapped-self.ensures.is;
    } in
    record { turn = e; held = goes_on s _ _ e }
