use Rattle.mother.specs.Means.{means}
use Rattle.follow.proofs.Walking.{word_on}
use Rattle.follow.proofs.step_on.Goals as goal

pub returns : goal.returns
returns g c =
    word_on (means g.M.Mother) g.F.Filter _ _ _ _ _ c.in_ok-word.ensures c.step.ensures
