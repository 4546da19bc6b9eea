use Rattle.std.proofs.Common.{◌∙◌}
use Rattle.booter.proofs.Rows.{ahead_one}
use Rattle.booter.proofs.register.Register.idle.Goals as goal

pub loop-preserved : goal.loop-preserved
loop-preserved c =
    let e = c.step.ensures.pair in
    let v = c.loop.invariant in
    (e.height ∙ v.0, ahead_one _ _ c.loop.counter _ _ _ v.0 v.1 e.moved)
