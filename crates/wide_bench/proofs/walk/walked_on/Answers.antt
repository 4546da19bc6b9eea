use Rattle.cryptmt.specs.Wide.{wide_words}
use Rattle.wide_bench.proofs.Walking.{told_on}
use Rattle.wide_bench.proofs.walk.walked_on.Goals as goal

pub returns : goal.returns
returns c =
    let key = c.args.key.now in
    let iv = c.args.iv.now in
    let begun = c.in_ok-first.ensures in
    told_on _ _ key iv (wide_words key iv) c.args.words begun.0 begun.1 _ _ _ c.on.result begun.3 c.on.ensures
