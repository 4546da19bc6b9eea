use Rattle.std.proofs.Common.{◌≡◌, ◌%◌, length, vec_items, sym, ◌∙◌, inr, arith}
use Rattle.std.proofs.lemmas.Result.{err_from_is_err_and}
use Rattle.std.proofs.lemmas.Bool.Decides.{nat_tests}
use Rattle.digits.specs.Digits.{pair_of}
use Rattle.digits.proofs.Gathering.{gathered_none, gathered_all}
use Rattle.digits.proofs.Pairs.{odd_none, pairs_spell}
use Rattle.digits.proofs.hex.Goals as goal

pub returns-then-not-is_empty : goal.returns-then-not-is_empty
returns-then-not-is_empty c =
    inr (odd_none c.args.text.now (λ e. grind (arith, nat_tests, c.as_chunks.ensures.back_len)))

pub returns-in_err-byte : goal.returns-in_err-byte
returns-in_err-byte c =
    let p = err_from_is_err_and c.from_residual.result c.from_residual.ensures.1 in
    let even : length c.args.text.now % 2 ≡ 0 = grind (arith, nat_tests, c.as_chunks.ensures.back_len) in
    let spell = pairs_spell c.args.text.now c.as_chunks.result.0.now even c.as_chunks.ensures.front in
    let none = gathered_none pair_of c.as_chunks.result.0.now c.loop-pair.pair-index (vec_items c.loop-pair.out)
    c.loop-pair.invariant c.loop-pair-test.true c.in_err-byte.ensures in
    rw p.1 (inr (sym spell ∙ none))

pub returns : goal.returns
returns c =
    let even : length c.args.text.now % 2 ≡ 0 = grind (arith, nat_tests, c.as_chunks.ensures.back_len) in
    let spell = pairs_spell c.args.text.now c.as_chunks.result.0.now even c.as_chunks.ensures.front in
    let all = gathered_all pair_of c.as_chunks.result.0.now c.loop-pair.pair-index (vec_items c.loop-pair.out)
    c.loop-pair.invariant c.loop-pair-test.false in
    sym spell ∙ all
