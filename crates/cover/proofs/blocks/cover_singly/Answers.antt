use Rattle.std.proofs.Common.{◌≡◌, ℕ, ◌+◌, ◌-◌, ◌*◌, ◌/◌, ◌≤◌, List, length, take, drop, ap, ◌∙◌, subst, arith, length-take, length-drop}
use Rattle.mother.specs.Means.{means}
use Rattle.keystream.specs.Keystreams.{byte_at}
use Rattle.cover.specs.Blocks.{AtBlock}
use Rattle.cover.proofs.Pieces.{rest_more, front_more, all_pieces, piece_within, later_block}
use Rattle.cover.proofs.blocks.cover_singly.Goals as goal

pub loop-i-preserved : goal.loop-i-preserved
loop-i-preserved g c =
    let f = g.F.Filter in
    let i : ℕ = c.loop-i.i in
    let n : ℕ = c.SIZE-size.result in
    let at : ℕ = i * n in
    let end : ℕ = (i + 1) * n in
    let old : List ℕ = c.args.bytes.now in
    let bs : List ℕ = c.loop-i.bytes in
    let new : List ℕ = c.cover_block.new.bytes in
    let count : length old / n ≡ length old / f.SIZE = ap (λ t. length old / t) c.SIZE-size.ensures in
    let order : at ≤ end = omega arith in
    let within : end ≤ length old = piece_within i n f.SIZE (length old) c.SIZE-size.ensures c.loop-i-test.true c.requires in
    let part : length (take (end - at) (drop at bs)) ≡ end - at = simp (length-take, length-drop) (omega (arith, c.loop-i.auto.bytes)) in
    let long : length new ≡ end - at = c.cover_block.auto.bytes ∙ part in (
      rest_more at end old bs new c.loop-i.auto.bytes order within long c.loop-i.invariant.0,
      λ ws k stands low.
          let here = c.loop-i.invariant.1 ws k stands low in
          let next = c.in_ok-cover_block.ensures ws (k + i) here.1 (omega (arith, c.loop-i-test.true, count)) in
          let e : k + i + 1 ≡ k + (i + 1) = omega arith in (
            front_more at end old bs new c.loop-i.auto.bytes order within long c.loop-i.invariant.0 (byte_at f ws) (k * f.SIZE) ((k + i) * f.SIZE)
                (later_block k i n f.SIZE c.SIZE-size.ensures) here.0 next.0,
            subst (AtBlock (means g.M.Mother) f c.cover_block.new.mother c.cover_block.new.memory ws) e next.1,
            next.2 ∙ here.2,
          ),
    )

pub returns : goal.returns
returns g c ws k stands low =
    let f = g.F.Filter in
    let i : ℕ = c.loop-i.i in
    let n : ℕ = c.SIZE-size.result in
    let old : List ℕ = c.args.bytes.now in
    let count : length old / n ≡ length old / f.SIZE = ap (λ t. length old / t) c.SIZE-size.ensures in
    let end : i ≡ length old / f.SIZE = omega (arith, c.loop-i-test.false, c.loop-i.auto.i-end, count) in
    let whole : i * n ≡ length old = ap (λ t. t * n) end ∙ ap (λ t. length old / f.SIZE * t) c.SIZE-size.ensures ∙ c.requires in
    let here = c.loop-i.invariant.1 ws k stands low in (
      all_pieces (byte_at f ws) (k * f.SIZE) (i * n) old c.loop-i.bytes c.loop-i.auto.bytes (omega arith) here.0,
      subst (λ t. AtBlock (means g.M.Mother) f c.loop-i.mother c.loop-i.memory ws (k + t)) end here.1,
      here.2,
    )
