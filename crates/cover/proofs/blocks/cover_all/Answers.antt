use Rattle.std.proofs.Common.{◌≡◌, ℕ, ◌+◌, ◌*◌, length, drop, refl, ap, ◌∙◌, arith}
use Rattle.mother.specs.Means.{means}
use Rattle.cover.proofs.Covering.{within_rest, past_rest}
use Rattle.cover.proofs.blocks.cover_all.Goals as goal

pub returns-then-used-bytes : goal.returns-then-used-bytes
returns-then-used-bytes g c ws p at low =
    let st = c.args.stage.now in
    let n : ℕ = length c.args.bytes.now in
    let used : c.cover-used.result ≡ n = c.if-used-bytes.true ∙ c.cover-used.auto.bytes in
    let left = c.cover-used.ensures.rest ∙ ap (λ k. drop k st.rest) used in
    let all = within_rest (means g.M.Mother) g.F.Filter ws c.args.mother.now st.memory p st.rest c.cover-used.new.self c.args.bytes.now c.cover-used.new.bytes at.between
    (omega (arith, used, c.cover-used.ensures.count)) left c.cover-used.ensures.covers in (
      all.0,
      record { position = ap (λ k. st.position + k) c.cover-used.auto.bytes ∙ ap (λ k. k + n) at.position; between = all.1 },
      refl,
    )

pub returns : goal.returns
returns g c ws p at low =
    let f = g.F.Filter in
    let st = c.args.stage.now in
    let old = c.args.bytes.now in
    let mid = c.cover-used.new.bytes in
    let split = c.split_at_mut-tail.ensures in
    let used : c.cover-used.result ≡ length st.rest = omega (arith, c.cover-used.ensures.count, c.if-used-bytes.false, c.cover-used.auto.bytes) in
    let start : at.between.made * f.SIZE ≡ p + length st.rest = omega (arith, at.between.sum) in
    let next = c.in_ok-stage.ensures ws at.between.made at.between.follows (omega (arith, split.back_len, start, used, c.cover-used.auto.bytes)) in
    let all = past_rest (means g.M.Mother) f ws c.args.mother.now c.cover_blocks.new.mother st.memory c.cover_blocks.new.kept p c.cover-used.result st.rest _ old mid _ _
    c.cover_blocks.new.bytes at.between used (omega (arith, c.cover-used.ensures.count)) c.cover-used.ensures.covers split.front split.back next.0 next.1 in (
      all.0,
      record { position = ap (λ k. st.position + k) c.cover-used.auto.bytes ∙ ap (λ k. k + length old) at.position; between = all.1 },
      next.2,
    )
