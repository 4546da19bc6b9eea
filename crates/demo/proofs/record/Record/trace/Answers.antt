use Rattle.std.proofs.Common.{vec_items}
use Rattle.demo.proofs.Laying.{taken}
use Rattle.demo.proofs.record.Record.trace.Goals as goal

pub returns : goal.returns
returns c =
    taken c.as_slice-bytes.result.now _ (vec_items c.in_ok-trace.trace) _ c.as_slice-bytes.ensures.value
    (c.in_ok-trace.ensures.items_if_clones_equal (λ x y same. same)) c.in_ok-extend_from_slice.ensures.items
