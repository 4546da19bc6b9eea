use Rattle.std.proofs.Common.{◌≡◌, true, cond, leb, ◌+◌, length, Some, None, sym, ap, ◌∙◌, arith, le-leb}
use Rattle.row.specs.Bytes.{row_at}
use Rattle.row.proofs.ByteLaws.{row_within}
use Rattle.row.proofs.Row.read.Goals as goal

pub returns : goal.returns
returns c =
    let bs = c.args.bytes.now in
    let at = c.args.at in
    let rest = c.in_ok-get.ensures.lookup in
    let chunk = c.in_ok-chunk.ensures.cases in
    let t : leb (at + 16) (length bs) ≡ true = le-leb (at + 16) (length bs) (omega (arith, rest, chunk.enough)) in
    let e = row_within bs _ _ at rest.0.2 chunk.enough (omega (arith, rest.0.3)) chunk.same in
    ap Some (c.from_bytes.ensures ∙ e) ∙ ap (λ b. cond b (Some (row_at bs at)) None) (sym t)
