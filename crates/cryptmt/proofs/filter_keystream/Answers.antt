use Rattle.cryptmt.proofs.Pile.{filter_is_defined}
use Rattle.cryptmt.proofs.filter_keystream.Goals as goal

pub returns : goal.returns
returns g c = record { bytes = c.keystream.ensures; cipher = filter_is_defined g.P.NarrowFilter }
