use Rattle.booter.proofs.Turns.{step_there_and_back, step_back_and_there}
use Rattle.booter.proofs.Loads.{sequences_stand}
use Rattle.booter.proofs.sequences_stand.Goals as goal

pub returns : goal.returns
returns c = record { equations = sequences_stand; undone = step_there_and_back; redone = step_back_and_there }
