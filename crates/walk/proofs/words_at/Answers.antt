use Rattle.std.proofs.Common.{arith}
use Rattle.std.proofs.lemmas.Result.{err_from_is_err_and}
use Rattle.mother.specs.Means.{means}
use Rattle.walk.proofs.Going.{among_then}
use Rattle.walk.proofs.words_at.Goals as goal

pub returns-in_err-word : goal.returns-in_err-word
returns-in_err-word g c =
    let p = err_from_is_err_and c.from_residual.result c.from_residual.ensures.1 in
    rw (p.1, p.2) (λ sound.
    let before = (c.loop-place.invariant sound).0 in
    let refused = c.in_err-word.ensures before.0 in (
      among_then (means g.M.Mother) c.args.mother.now c.loop-place.mother c.word_at.new.mother before
          refused.2 refused.3.start refused.3.word refused.3.given,
      refused.1,
      (c.loop-place.place-index, omega arith, refused.0),
    ))

pub returns-in_err-push : goal.returns-in_err-push
returns-in_err-push g c =
    let p = err_from_is_err_and c.from_residual-in_err-push.result c.from_residual-in_err-push.ensures.1 in
    rw (p.1, p.2) (λ sound.
    let before = (c.loop-place.invariant sound).0 in
    let shown = (c.in_ok-word.ensures before.0).1 in
    among_then (means g.M.Mother) c.args.mother.now c.loop-place.mother c.word_at.new.mother before
    shown.sound shown.stays.start shown.stays.word shown.stays.given)
