use Rattle.handover.specs.Calls.{TurnedBack}
use Rattle.handover.proofs.Moves.{goes_back}
use Rattle.handover.proofs.ring.Ring.backward.Goals as goal

pub returns : goal.returns
returns c =
    let e : TurnedBack c.args.self.now c.at-newest.result _ =
    record {
      row = c.at-newest.ensures;
      rows = rw (c.wrapped-last.ensures.is, c.older-old.ensures);
      head = c.wrapped-last.ensures.is;
    } in
    record { turn = e; held = goes_back _ _ _ e }
