use Rattle.std.proofs.Common.{◌≤◌, arith}
use Rattle.std.proofs.lemmas.Result.{err_from_is_err_and}
use Rattle.mother.specs.Means.{means}
use Rattle.follow.proofs.Walking.{back_none, back_more, back_granted, back_all}
use Rattle.follow.proofs.back.Goals as goal

pub loop-i-init : goal.loop-i-init
loop-i-init g c = back_none (means g.M.Mother) g.F.Filter g.F.TwoWayFilter.held c.args.mother.now c.args.memory

pub loop-i-preserved : goal.loop-i-preserved
loop-i-preserved g c =
    back_more (means g.M.Mother) g.F.Filter g.F.TwoWayFilter.held c.args.mother.now c.loop-i.mother c.step_back.new.mother
    c.args.memory c.loop-i.y _ c.loop-i._i c.loop-i.invariant c.in_ok-y.ensures

pub returns-in_err-y : goal.returns-in_err-y
returns-in_err-y g c =
    let p = err_from_is_err_and c.from_residual-in_err-y.result c.from_residual-in_err-y.ensures.1 in
    rw p.1 (λ ws n begins fo.
    let low : c.args.words ≤ n = omega (arith, c.place.ensures, c.in_ok-before.ensures.0, fo.place) in
    absurd (back_granted (means g.M.Mother) g.F.Filter g.F.TwoWayFilter.held c.args.mother.now c.loop-i.mother c.step_back.new.mother
    c.args.memory c.loop-i.y c.loop-i._i c.args.words _ (omega arith) c.loop-i.invariant c.in_err-y.ensures ws n begins fo low))

pub returns : goal.returns
returns g c ws n begins fo =
    let low : c.args.words ≤ n = omega (arith, c.place.ensures, c.in_ok-before.ensures.0, fo.place) in
    back_all (means g.M.Mother) g.F.Filter g.F.TwoWayFilter.held c.args.mother.now c.loop-i.mother c.args.memory c.loop-i.y
    c.loop-i._i c.args.words (omega arith) c.loop-i.invariant ws n begins fo low
