use Rattle.std.proofs.Common.{◌≢◌, length, vec_items, ap, sym, ◌∙◌, arith}
use Rattle.std.proofs.lemmas.Grind.{common_steps}
use Rattle.std.proofs.lemmas.Bool.Decides.{nat_tests}
use Rattle.line_tool.specs.Lines.{kept_of}
use Rattle.line_tool.proofs.Keeping.{one_begun}
use Rattle.line_tool.proofs.pending.Pending.end.Goals as goal

pub returns-else-is_empty : goal.returns-else-is_empty
returns-else-is_empty g c =
    let some : length (vec_items c.self.inside.bytes) ≢ 0 = grind (arith, common_steps, nat_tests) in
    ap (kept_of g.row.MOST) (sym c.self.view_is)
    ∙ one_begun g.row.MOST (vec_items c.self.inside.bytes) c.self.invariant some
