use Rattle.std.proofs.Common.{◌≡◌, ◌*◌, ◌+◌, ◌-◌, length, ap, ◌∙◌, arith}
use Rattle.keystream.specs.Keystreams.{byte_at}
use Rattle.cover.specs.Lists.{covered, streamed}
use Rattle.cover.proofs.blocks.cover_first.Goals as goal

pub returns : goal.returns
returns g c ws at =
    let f = g.F.Filter in
    let K = byte_at f ws in
    let old = c.args.bytes.now in
    let made = c.in_ok-block.ensures ws 0 at (omega arith) in
    let part = c.cover_part.ensures ws 0 made.0 in
    let front : 0 * f.SIZE ≡ 0 = omega arith in
    let here : 0 * f.SIZE + length old ≡ length old = omega arith in (
      part.0 ∙ ap (λ p. covered K p old) front,
      made.1,
      part.1 ∙ ap (λ p. streamed K p (f.SIZE - length old)) here,
      made.2,
    )
