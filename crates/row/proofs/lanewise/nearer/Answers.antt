use Rattle.row.specs.Lanes.{nearer}
use Rattle.row.proofs.lanewise.nearer.Goals as goal

pub returns : goal.returns
unfolding nearer
returns g c k = rw (c.times-2.ensures k, c.minus.ensures k, c.splat.ensures k, c.times.ensures k)
