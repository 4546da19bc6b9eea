use Rattle.row.specs.Lanes.{◌⊘◌}
use Rattle.row.proofs.lanewise.odd_quotient.Goals as goal

pub returns : goal.returns
unfolding ◌⊘◌
returns g c k =
    rw (
      c.times-2.ensures k,
      c.minus.ensures k,
      c.odd_inverse.ensures k,
      c.plus-factor.ensures k,
      c.times.ensures k,
      c.splat.ensures k,
      c.splat-2.ensures k,
    )
