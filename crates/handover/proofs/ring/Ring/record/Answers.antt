use Rattle.std.proofs.Common.{set, refl, ap, arith}
use Rattle.handover.proofs.Moves.{one_more, all_recorded}
use Rattle.handover.proofs.ring.Ring.record.Goals as goal

pub returns-then-n-eq-NEWEST : goal.returns-then-n-eq-NEWEST
returns-then-n-eq-NEWEST c w e h =
    let s = c.args.self.now in
    c.forward.ensures.held.seam w c.args.n c.if-n-eq-NEWEST.true
    (all_recorded s _ c.seeded.result w c.args.n (ap (λ i. set s.rows i c.seeded.result) c.wrapped.ensures.is) refl
    (c.seeded.ensures w e) h c.if-n-eq-NEWEST.true)

pub returns-else-n-eq-NEWEST : goal.returns-else-n-eq-NEWEST
returns-else-n-eq-NEWEST c w e h =
    let s = c.args.self.now in
    one_more s _ c.seeded.result w c.args.n (ap (λ i. set s.rows i c.seeded.result) c.wrapped.ensures.is) refl
    (c.seeded.ensures w e) h (omega (arith, c.if-n-eq-NEWEST.false, c.requires))
