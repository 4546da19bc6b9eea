use Rattle.std.proofs.Common.{drop, ◌++◌, ap, ◌∙◌, arith, length-take, length-drop}
use Rattle.cover.specs.Lists.{xored}
use Rattle.cover.proofs.Bytes.{xored_front, part_less}
use Rattle.cover.proofs.rest.Rest.cover.Goals as goal

pub returns-clause-rest : goal.returns-clause-rest
returns-clause-rest c =
    let r = c.self.inside in
    part_less r.block r.from r.to c.min-count.result (omega (arith, c.min-count.ensures, c.self.invariant))
    ∙ ap (drop c.min-count.result) c.self.view_is

pub returns-clause-covers : goal.returns-clause-covers
returns-clause-covers c =
    let n = c.min-count.result in
    let bytes = c.args.bytes.now in
    ap (λ t. t ++ drop n bytes) c.xor.ensures ∙ xored_front n bytes _ (simp (length-take, length-drop) (omega (arith, c.min-count.ensures, c.self.told, c.self.invariant))) ∙ ap (xored bytes) c.self.view_is
