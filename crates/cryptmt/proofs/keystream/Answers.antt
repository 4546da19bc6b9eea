use Rattle.cryptmt.proofs.Pile.{wide_is_cryptmt}
use Rattle.cryptmt.proofs.keystream.Goals as goal

pub returns : goal.returns
returns c = record { bytes = c.keystream.ensures; cipher = wide_is_cryptmt }
