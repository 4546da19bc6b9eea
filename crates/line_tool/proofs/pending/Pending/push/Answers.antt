use Rattle.std.proofs.Common.{◌≡◌, ◌+◌, [], ◌∷◌, ◌++◌, take, vec_items, ap, sym, ◌∙◌, arith}
use Rattle.std.proofs.lemmas.Grind.{common_steps}
use Rattle.std.proofs.lemmas.List.{take_all, take_at}
use Rattle.line_tool.specs.Lines.{kept_of}
use Rattle.line_tool.proofs.Keeping.{ended, goes_on}
use Rattle.line_tool.proofs.pending.Pending.push.Goals as goal
use Rattle.line_tool.proofs.pending.Pending.push.Goals.{then-len+in_ok-push, else-len}

pub returns-then-b-eq-END-clause-lines : goal.returns-then-b-eq-END-clause-lines
returns-then-b-eq-END-clause-lines g c = λ rest.
    let end = ended g.row.MOST (vec_items c.self.inside.bytes) rest c.self.invariant in
    rw (← c.self.view_is, c.if-b-eq-END.true, c.replace.ensures.value, c.replace.ensures.after, c.new.ensures.items) end

pub returns-clause-lines : goal.returns-clause-lines
returns-clause-lines g c = λ rest.
    let line = vec_items c.self.inside.bytes in
    let step : c.if-len.self ≡ take (g.row.MOST + 1) (vec_items c.self.inside.bytes ++ c.args.b ∷ []) =
    elim c.if-len.branch [
      | then-len+in_ok-push w ↦ grind (arith, common_steps, take_all)
      | else-len w ↦ grind (arith, common_steps, take_at)
    ] in
    ap (λ l. kept_of g.row.MOST (l ++ c.args.b ∷ rest)) (sym c.self.view_is)
    ∙ goes_on g.row.MOST c.args.b line rest c.self.invariant c.if-b-eq-END.false
    ∙ ap (λ l. kept_of g.row.MOST (l ++ rest)) (sym step)
