use Rattle.std.proofs.Common.{◌≡◌}
use Rattle.std.proofs.lemmas.Result.{err_from_is_err_and}
use Rattle.cryptmt.specs.Wide.{wide_words}
use Rattle.wide_bench.proofs.Walking.{refused_on, told_back}
use Rattle.wide_bench.proofs.walk.walked_there_and_back.Goals as goal

pub returns-in_err-far : goal.returns-in_err-far
returns-in_err-far c =
    let key = c.args.key.now in
    let iv = c.args.iv.now in
    let begun = c.in_ok-first.ensures in
    let p = err_from_is_err_and c.from_residual-in_err-far.result c.from_residual-in_err-far.ensures.1 in
    rw (p.1, p.2)
    (refused_on _ _ key iv (wide_words key iv) c.args.words begun.0 begun.1 _ c.on.new.mother _ c.in_err-far.field-0.0
    (λ y. y ≡ (wide_words key iv).start) begun.3 c.in_err-far.ensures)

pub returns : goal.returns
returns c =
    let key = c.args.key.now in
    let iv = c.args.iv.now in
    let begun = c.in_ok-first.ensures in
    told_back _ _ key iv (wide_words key iv) c.args.words begun.0 begun.1 _ _ _ _ _ _ c.back.result begun.2 begun.3
    c.in_ok-far.ensures c.back.ensures
