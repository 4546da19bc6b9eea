use Rattle.std.proofs.Common.{◌<◌, arith}
use Rattle.handover.proofs.Moves.{one_fewer}
use Rattle.handover.proofs.ring.Ring.forget.Goals as goal

pub returns-else-n-eq-NEWEST : goal.returns-else-n-eq-NEWEST
returns-else-n-eq-NEWEST c w m e h =
    let n = c.args.n in
    let l : n < 155 = omega (arith, c.if-n-eq-NEWEST.false, c.requires) in
    one_fewer w c.args.self.now n m l e h
