use Rattle.std.proofs.Common.{◌^◌}
use Rattle.row.specs.Lanes.{◌⊗◌}
use Rattle.row.proofs.Modular.{oprod_wraps}
use Rattle.row.proofs.lanewise.odd_product.Goals as goal

pub returns : goal.returns
unfolding ◌⊗◌
returns g c k =
    rw (c.plus-3.ensures k, c.times.ensures k, c.plus-2.ensures k, c.plus.ensures k, c.splat.ensures k)
    (oprod_wraps (2 ^ 32) (g.L.Lanewise.lane c.args.x k) (g.L.Lanewise.lane c.args.y k))
