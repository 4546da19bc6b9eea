use Rattle.row.specs.Lanes.{guess}
use Rattle.row.proofs.lanewise.guess.Goals as goal

pub returns : goal.returns
unfolding guess
returns g c k = rw (c.xor.ensures k, c.times.ensures k, c.splat.ensures k, c.splat-2.ensures k)
