use Rattle.mother.specs.Means.{means}
use Rattle.follow.proofs.Walking.{word_back}
use Rattle.follow.proofs.step_back.Goals as goal

pub returns : goal.returns
returns g c =
    word_back (means g.M.Mother) g.F.Filter g.F.TwoWayFilter.held g.met.F.TwoWayFilter.stays _ _ _ _ _ c.in_ok-word.ensures
    c.undo.ensures
