use Rattle.booter.specs.Calls.{Sane}
use Rattle.booter.proofs.Loads.{is_zeros, sound_new}
use Rattle.booter.proofs.register.Register.new.Goals as goal

pub returns : goal.returns
unfolding Sane
returns c = sound_new c.default-zeros.result (is_zeros c.default-zeros.result c.default-zeros.ensures)
