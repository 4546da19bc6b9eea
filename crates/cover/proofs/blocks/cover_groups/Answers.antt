use Rattle.std.proofs.Common.{◌≡◌, ℕ, ◌+◌, ◌-◌, ◌*◌, ◌/◌, ◌≤◌, List, length, take, drop, ap, ◌∙◌, subst, arith, length-take, length-drop}
use Rattle.mother.specs.Means.{means}
use Rattle.keystream.specs.Keystreams.{byte_at}
use Rattle.cover.specs.Blocks.{AtBlock}
use Rattle.cover.proofs.Pieces.{rest_more, front_more, all_pieces, piece_within, later_block}
use Rattle.cover.proofs.Covering.{group_words, group_granted}
use Rattle.cover.proofs.blocks.cover_groups.Goals as goal

-- where the group after i groups begins
later_group : (k i n size : ℕ) → n ≡ size → (k + 4 * i) * size ≡ k * size + i * (4 * n)
later_group k i n size e = let t : (4 * i) * n ≡ i * (4 * n) = omega arith in omega (arith, later_block k (4 * i) n size e, t)

pub returns-in_err-fill : goal.returns-in_err-fill
returns-in_err-fill g c ws k stands low =
    let i : ℕ = c.loop-i.i in
    let old : List ℕ = c.args.bytes.now in
    let count : length old / (4 * c.SIZE-size.result) ≡ length old / (4 * g.F.Filter.SIZE) = ap (λ t. length old / (4 * t)) c.SIZE-size.ensures in
    let here = c.loop-i.invariant.1 ws k stands low in
    absurd (group_granted (means g.M.Mother) g.F.Filter c.loop-i.mother c.fill.new.self c.loop-i.memory ws (k + 4 * i) c.loop-i.words c.fill.new.words
    c.in_err-fill.field-0.0 here.1 (c.loop-i.auto.words ∙ c.requires.0) (omega (arith, c.loop-i-test.true, count)) c.in_err-fill.ensures)

pub loop-i-preserved : goal.loop-i-preserved
loop-i-preserved g c =
    let m = means g.M.Mother in
    let f = g.F.Filter in
    let i : ℕ = c.loop-i.i in
    let four = ap (λ t. 4 * t) c.SIZE-size.ensures in
    let n : ℕ = 4 * c.SIZE-size.result in
    let at : ℕ = i * n in
    let end : ℕ = (i + 1) * n in
    let old : List ℕ = c.args.bytes.now in
    let bs : List ℕ = c.loop-i.bytes in
    let new : List ℕ = c.cover_group.new.bytes in
    let order : at ≤ end = omega arith in
    let within : end ≤ length old = piece_within i n (4 * f.SIZE) (length old) four c.loop-i-test.true c.requires.1 in
    let part : length (take (end - at) (drop at bs)) ≡ end - at = simp (length-take, length-drop) (omega (arith, c.loop-i.auto.bytes)) in
    let long : length new ≡ end - at = c.cover_group.auto.bytes ∙ part in (
      rest_more at end old bs new c.loop-i.auto.bytes order within long c.loop-i.invariant.0,
      λ ws k stands low.
          let here = c.loop-i.invariant.1 ws k stands low in
          let eight : length c.loop-i.words ≡ 8 = c.loop-i.auto.words ∙ c.requires.0 in
          let e : k + 4 * i + 4 ≡ k + 4 * (i + 1) = omega arith in
          let words = group_words m f c.loop-i.mother c.fill.new.self c.loop-i.memory ws (k + 4 * i) c.loop-i.words c.fill.new.words here.1 eight (c.fill.auto.words ∙ eight) c.in_ok-fill.ensures in
          let group = c.cover_group.ensures ws (k + 4 * i) here.1.0 here.1.1.memory words.0 in (
            front_more at end old bs new c.loop-i.auto.bytes order within long c.loop-i.invariant.0 (byte_at f ws) (k * f.SIZE) ((k + 4 * i) * f.SIZE)
                (later_group k i c.SIZE-size.result f.SIZE c.SIZE-size.ensures) here.0 group.1,
            subst (AtBlock m f c.fill.new.self c.cover_group.result ws) e (words.1 c.cover_group.result group.0),
            words.2 ∙ here.2,
          ),
    )

pub returns : goal.returns
returns g c ws k stands low =
    let f = g.F.Filter in
    let i : ℕ = c.loop-i.i in
    let n : ℕ = 4 * c.SIZE-size.result in
    let four = ap (λ t. 4 * t) c.SIZE-size.ensures in
    let old : List ℕ = c.args.bytes.now in
    let count : length old / n ≡ length old / (4 * f.SIZE) = ap (λ t. length old / t) four in
    let end : i ≡ length old / (4 * f.SIZE) = omega (arith, c.loop-i-test.false, c.loop-i.auto.i-end, count) in
    let whole : i * n ≡ length old = ap (λ t. t * n) end ∙ ap (λ t. length old / (4 * f.SIZE) * t) four ∙ c.requires.1 in
    let here = c.loop-i.invariant.1 ws k stands low in (
      all_pieces (byte_at f ws) (k * f.SIZE) (i * n) old c.loop-i.bytes c.loop-i.auto.bytes (omega arith) here.0,
      subst (λ t. AtBlock (means g.M.Mother) f c.loop-i.mother c.loop-i.memory ws (k + 4 * t)) end here.1,
      here.2,
    )
