use Rattle.std.proofs.Common.{◌+◌, ◌^◌, ◌≤◌, length, ap, arith}
use Rattle.keystream.specs.Keystreams.{byte_at}
use Rattle.cover.proofs.Bytes.{streamed_over}
use Rattle.cover.proofs.range.keystream.Goals as goal

pub returns : goal.returns
returns g c =
    let key = c.args.key.now in
    let iv = c.args.iv.now in
    let ws = g.M.Mother.given c.new-cover.result.mother key iv in
    let set = c.in_ok-set_up.ensures in
    let low : c.args.from + length c.args.out.now ≤ 2 ^ 32 = omega arith in
    let ready = c.in_ok-pass.ensures ws 0 set.2 (omega arith) in
    let out = c.in_ok-cover.ensures.1 ws (0 + c.args.from) ready in
    let same = ap (λ s. byte_at g.F.Filter (g.M.Mother.given s key iv)) c.new-cover.ensures.mother in (
      set.0,
      set.1,
      low,
      streamed_over (byte_at g.F.Filter ws) _ c.args.from (length c.args.out.now) c.fill.new.self
          c.cover.new.bytes same (c.fill.ensures.after (λ y e. e)) out.2,
    )
