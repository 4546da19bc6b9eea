use Rattle.std.proofs.Common.{◌≡◌, vec_items, ap, ◌∙◌}
use Rattle.demo.specs.Records.{laid_out, trace_of}
use Rattle.demo.proofs.Laying.{laid, trace_found}
use Rattle.demo.proofs.record.Record.new.Goals as goal

pub returns : goal.returns
returns c =
    let e : vec_items c.extend_from_slice-2.new.self ≡ laid_out c.args.trace.now =
    laid c.split_at.result.0.now c.split_at.result.1.now (vec_items c.in_ok-bytes.bytes)
    (vec_items c.extend_from_slice.new.self) _
    c.args.trace.now c.split_at.ensures.front c.split_at.ensures.back
    (c.in_ok-bytes.ensures.items_if_clones_equal (λ x y same. same))
    c.in_ok-extend_from_slice.ensures.items
    c.in_ok-extend_from_slice-2.ensures.items in
    record { bytes = e; found = ap trace_of e ∙ trace_found c.args.trace.now c.requires }
