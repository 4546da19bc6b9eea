use Rattle.std.proofs.Common.{get_or, set, take, sym, ap, ◌∙◌, add-one, arith}
use lib.Bits.{bit_xor}
use Rattle.cover.specs.Lists.{xored}
use Rattle.cover.proofs.Bytes.{xored_none, xored_more, xored_take}
use Rattle.cover.proofs.rest.xor.Goals as goal

pub loop-i-init : goal.loop-i-init
loop-i-init c = sym (xored_none _)

pub loop-i-preserved : goal.loop-i-preserved
loop-i-preserved c =
    let bs = c.args.bytes.now in
    let ks = c.args.keys.now in
    let i = c.loop-i.i in
    ap (λ t. set t i (bit_xor (get_or t i 0) (get_or ks i 0))) c.loop-i.invariant
    ∙ xored_more bs ks i (omega (arith, c.loop-i.auto.bytes)) (omega (arith, c.loop-i.auto.bytes))
    ∙ ap (λ n. xored bs (take n ks)) (sym (add-one i))

pub returns : goal.returns
returns c = c.loop-i.invariant ∙ xored_take c.args.bytes.now c.args.keys.now c.loop-i.i (omega (arith, c.loop-i.auto.bytes))
