use Rattle.std.proofs.Common.{ap, arith}
use Rattle.row.specs.Lanes.{Lane, times, odd_factor, inverse}
use Rattle.row.proofs.LaneLaws.{factor_undone, factor_onto}
use Rattle.row.proofs.Undoing.{undoes_by}
use Rattle.row.proofs.lane.quotient.Goals as goal

pub returns : goal.returns
returns c =
    let z = c.args.z in
    let x = c.args.x in
    let e = ap (times z) c.odd_inverse.ensures.is in
    record {
      is = e;
      undoes = undoes_by Lane (λ y. times y (odd_factor x)) (λ t. times t (inverse (odd_factor x))) z _ e
          (factor_onto z x (omega arith)) (λ y h. factor_undone y x h);
    }
