use Rattle.std.proofs.Common.{◌≡◌, ◌<◌, length, sym, ap, ◌∙◌, set, [], ◌∷◌, length-append, arith}
use Rattle.std.proofs.lemmas.Iterator.{YieldsList-from_slice}
use Rattle.std.proofs.lemmas.Iterator.Consumers.{YieldsList-from_enumerate, YieldsList-at}
use Rattle.std.proofs.lemmas.List.{length-replicate}
use Rattle.row.specs.Rows.{zeros}
use Rattle.booter.specs.Loading.{chunks, filled, twice, height}
use Rattle.booter.proofs.Halves.{chained, halves_turn, halves_end}
use Rattle.booter.proofs.Loads.{filled_more}
use Rattle.booter.proofs.register.loading.write_rows.Goals as goal

-- the rows come from the IV, the key, the IV and the key
turn : (c : goal.After-from_bytes) → (c.in-Some.i ≡ length c.loop-i.yielded)
    × (length c.loop-i.yielded < height c.args.key.now c.args.iv.now)
    × (c.from_bytes.result ≡ twice c.args.key.now c.args.iv.now (length c.loop-i.yielded))
turn c =
    let key = chunks c.args.key.now in
    let iv = chunks c.args.iv.now in
    let from_iv = YieldsList-from_slice iv cc in
    let from_key = chained key from_iv c.chain.ensures.first (cc) c.chain.ensures.first_done c.chain.ensures.second_done in
    let from_iv_again =
    chained iv from_key c.chain-2.ensures.first (cc) c.chain-2.ensures.first_done c.chain-2.ensures.second_done in
    let from_all =
    chained key from_iv_again c.chain-3.ensures.first (cc) c.chain-3.ensures.first_done c.chain-3.ensures.second_done in
    let counted = YieldsList-at c.enumerate-i-items.ensures.source from_all in
    let road = YieldsList-from_enumerate counted c.enumerate-i-items.ensures.count in
    let t = halves_turn c.args.key.now c.args.iv.now (YieldsList-at c.into_iter-i-iterator.ensures.into_iter_gives road)
    c.loop-i.yielded _ c.loop-i.yielded_by _ _ (c.in-Some.i, c.in-Some.bytes) c.in-Some.is c.next.ensures.steps in
    (t.0, t.1, c.from_bytes.ensures ∙ t.2)

pub bounds-rows-i : goal.bounds-rows-i
bounds-rows-i c =
    let t = turn c in
    let long : length c.args.rows.now ≡ 64 = ap length c.requires ∙ length-replicate 64 zeros in
    omega (arith, t, c.chunks-iv.ensures.few, c.chunks-key.ensures.few, c.loop-i.auto.rows, long)

pub loop-i-preserved : goal.loop-i-preserved
loop-i-preserved c =
    let f = twice c.args.key.now c.args.iv.now in
    let t = turn c in
    ap (λ n. set c.loop-i.rows n c.from_bytes.result) t.0
    ∙ filled_more f (length c.loop-i.yielded) c.loop-i.rows c.from_bytes.result c.loop-i.invariant t.2
    ∙ ap (filled f) (sym (length-append c.loop-i.yielded ((c.in-Some.i, c.in-Some.bytes) ∷ [])))

pub returns : goal.returns
returns c =
    let key = chunks c.args.key.now in
    let iv = chunks c.args.iv.now in
    let from_iv = YieldsList-from_slice iv cc in
    let from_key = chained key from_iv c.chain.ensures.first (cc) c.chain.ensures.first_done c.chain.ensures.second_done in
    let from_iv_again =
    chained iv from_key c.chain-2.ensures.first (cc) c.chain-2.ensures.first_done c.chain-2.ensures.second_done in
    let from_all =
    chained key from_iv_again c.chain-3.ensures.first (cc) c.chain-3.ensures.first_done c.chain-3.ensures.second_done in
    let counted = YieldsList-at c.enumerate-i-items.ensures.source from_all in
    let road = YieldsList-from_enumerate counted c.enumerate-i-items.ensures.count in
    let end = halves_end c.args.key.now c.args.iv.now (YieldsList-at c.into_iter-i-iterator.ensures.into_iter_gives road)
    c.loop-i.yielded _ c.loop-i.yielded_by _ _ c.in-None.is c.next.ensures.steps in
    c.loop-i.invariant ∙ ap (filled (twice c.args.key.now c.args.iv.now)) end
