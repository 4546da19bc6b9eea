use Rattle.row.specs.Lanes.{inverse}
use Rattle.row.proofs.lanewise.odd_inverse.Goals as goal

pub returns : goal.returns
unfolding inverse
returns g c k =
    rw (c.nearer.ensures k, c.nearer-low16.ensures k, c.nearer-low8.ensures k, c.guess-low4.ensures k)
