use Rattle.std.proofs.Common.{◌≡◌, ℕ, ◌+◌, ◌-◌, ◌*◌, ◌/◌, ◌%◌, ◌<◌, ◌≤◌, min, List, length, take, drop, refl, ap, ◌∙◌, subst, arith, length-take, length-drop, mul-le-mul_right}
use borrow.Rule.Slice.PartMut.{put_mid}
use Rattle.std.proofs.lemmas.Grind.{div_ceil_times}
use Rattle.mother.specs.Means.{means}
use Rattle.keystream.specs.Keystreams.{byte_at}
use Rattle.cover.specs.Lists.{covered}
use Rattle.cover.specs.Covers.{Ready}
use Rattle.cover.proofs.Pieces.{rest_more, front_more, all_pieces}
use Rattle.wide_bench.proofs.in_pieces.Goals as goal

-- piece i of n bytes begins within a buffer that has as many pieces
begins_within : (i n long count : ℕ) → 0 < n → count ≡ long / n + min 1 (long % n) → i < count → i * n < long
begins_within i n long count pos is lt =
    let k : (i + 1) * n ≤ count * n = mul-le-mul_right n (omega arith) in
    omega (arith, (div_ceil_times long n pos).1, ap (λ t. t * n) is)

-- and all of them reach its end
reaches_end : (i n long count : ℕ) → 0 < n → count ≡ long / n + min 1 (long % n) → count ≤ i → long ≤ i * n
reaches_end i n long count pos is le =
    let k : count * n ≤ i * n = mul-le-mul_right n le in
    omega (arith, (div_ceil_times long n pos).0, ap (λ t. t * n) is)

pub loop-i-preserved : goal.loop-i-preserved
loop-i-preserved g c =
    let i : ℕ = c.loop-i.i in
    let n : ℕ = c.max-size.result in
    let at : ℕ = i * n in
    let old : List ℕ = c.args.bytes.now in
    let bs : List ℕ = c.loop-i.bytes in
    let new : List ℕ = c.cover.new.bytes in
    let end : ℕ = at + c.min.result in
    let pos : 0 < n = omega (arith, c.max-size.ensures) in
    let inside : at < length old = begins_within i n (length old) _ pos c.div_ceil-i-end.ensures c.loop-i-test.true in
    let here : min at (length old) ≡ at = omega arith in
    let next : end ≡ min ((i + 1) * n) (length old) = omega (arith, c.min.ensures, c.loop-i.auto.bytes) in
    let order : at ≤ end = omega arith in
    let within : end ≤ length old = omega arith in
    let rest : drop at bs ≡ drop at old = subst (λ t. drop t bs ≡ drop t old) here c.loop-i.invariant.0 in
    let part : length (take (end - at) (drop at bs)) ≡ end - at = simp (length-take, length-drop) (omega (arith, c.loop-i.auto.bytes)) in
    let long : length new ≡ end - at = c.cover.auto.bytes ∙ part in (
      let D : ℕ → Type 0 = λ t. drop t (put_mid at (end - at) bs new) ≡ drop t old in
          subst D next (rest_more at end old bs new c.loop-i.auto.bytes order within long rest),
      λ ws p ready low.
          let K = byte_at g.F.Filter ws in
          let so_far = c.loop-i.invariant.1 ws p ready low in
          let front : take at bs ≡ covered K p (take at old) = subst (λ t. take t bs ≡ covered K p (take t old)) here so_far.0 in
          let piece = c.in_ok-cover.ensures.1 ws (p + at) (subst (λ t. Ready (means g.M.Mother) g.F.Filter c.loop-i.cover ws (p + t)) here so_far.1) in
          let more = front_more at end old bs new c.loop-i.auto.bytes order within long rest K p (p + at) refl front piece.2 in
          let F : ℕ → Type 0 = λ t. take t (put_mid at (end - at) bs new) ≡ covered K p (take t old) in
          let stands : p + at + length (take (end - at) (drop at bs)) ≡ p + min ((i + 1) * n) (length old) = omega (arith, part, next) in (
            subst F next more,
            subst (Ready (means g.M.Mother) g.F.Filter c.cover.new.self ws) stands piece.3,
          ),
    )

pub returns : goal.returns
returns g c ws p ready low =
    let old : List ℕ = c.args.bytes.now in
    let n : ℕ = c.max-size.result in
    let pos : 0 < n = omega (arith, c.max-size.ensures) in
    let all : length old ≤ c.loop-i.i * n = reaches_end c.loop-i.i n (length old) _ pos c.div_ceil-i-end.ensures c.loop-i-test.false in
    let end : min (c.loop-i.i * n) (length old) ≡ length old = omega arith in
    let here = c.loop-i.invariant.1 ws p ready low in (
      all_pieces (byte_at g.F.Filter ws) p (min (c.loop-i.i * n) (length old)) old c.loop-i.bytes c.loop-i.auto.bytes (omega arith) here.0,
      subst (λ t. Ready (means g.M.Mother) g.F.Filter c.loop-i.cover ws (p + t)) end here.1,
    )
