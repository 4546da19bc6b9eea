use Rattle.std.proofs.Common.{length, vec_items, eqb, ap, sym, ◌∙◌, inr, arith, rules}
use Rattle.std.specs.Slice.Iter.{split_callee}
use Rattle.std.proofs.lemmas.Iterator.Consumers.{YieldsList-turn, YieldsList-end}
use Rattle.std.proofs.lemmas.Iterator.Splits.{YieldsList-from_slice_split}
use Rattle.std.proofs.lemmas.Result.{err_from_is_err_and}
use borrow.Author.Tests.{tests}
use Rattle.digits.specs.Digits.{decimal_of}
use Rattle.digits.specs.Cuts.{pieces_of}
use Rattle.digits.proofs.Gathering.{gathered_all, turn_more, turn_none}
use Rattle.digits.proofs.fields.decimals.Goals as goal

pub loop-piece-preserved : goal.loop-piece-preserved
loop-piece-preserved c =
    let turn = YieldsList-turn
    (YieldsList-from_slice_split _ (λ b. eqb b c.args.at) c.args.text.now (search rules) (search rules)
    (ap split_callee c.into_iter-piece-iterator.ensures.into_iter_gives ∙ c.split-piece-items.ensures.closure)
    (λ x b q k. search (rules, tests)))
    c.loop-piece.yielded _ c.loop-piece.yielded_by _ _ c.in-Some.piece c.in-Some.is c.next.ensures.steps in
    turn_more decimal_of (pieces_of c.args.at c.args.text.now) c.loop-piece.yielded (vec_items c.loop-piece.numbers)
    c.in-Some.piece.now c.loop-piece.invariant turn.0 turn.1 c.in-Some.piece c.in_ok-ok_or.field-0 _
    (sym c.decimal.ensures ∙ c.in_ok-ok_or.ensures.ok_part) c.in_ok-push.ensures.items

pub returns-in_err-ok_or : goal.returns-in_err-ok_or
returns-in_err-ok_or c =
    let p = err_from_is_err_and c.from_residual.result c.from_residual.ensures.1 in
    let turn = YieldsList-turn
    (YieldsList-from_slice_split _ (λ b. eqb b c.args.at) c.args.text.now (search rules) (search rules)
    (ap split_callee c.into_iter-piece-iterator.ensures.into_iter_gives ∙ c.split-piece-items.ensures.closure)
    (λ x b q k. search (rules, tests)))
    c.loop-piece.yielded _ c.loop-piece.yielded_by _ _ c.in-Some.piece c.in-Some.is c.next.ensures.steps in
    rw p.1 (inr (turn_none decimal_of (pieces_of c.args.at c.args.text.now) c.loop-piece.yielded (vec_items c.loop-piece.numbers)
    c.in-Some.piece.now c.loop-piece.invariant turn.0 turn.1 (sym c.decimal.ensures ∙ c.in_err-ok_or.ensures.ok_part)))

pub returns : goal.returns
returns c =
    let end = YieldsList-end
    (YieldsList-from_slice_split _ (λ b. eqb b c.args.at) c.args.text.now (search rules) (search rules)
    (ap split_callee c.into_iter-piece-iterator.ensures.into_iter_gives ∙ c.split-piece-items.ensures.closure)
    (λ x b q k. search (rules, tests)))
    c.loop-piece.yielded _ c.loop-piece.yielded_by _ _ c.in-None.is c.next.ensures.steps in
    gathered_all decimal_of (pieces_of c.args.at c.args.text.now) (length c.loop-piece.yielded) (vec_items c.loop-piece.numbers)
    c.loop-piece.invariant (omega (arith, end.1))
