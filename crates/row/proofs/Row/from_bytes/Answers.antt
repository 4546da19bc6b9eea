use Rattle.std.proofs.Common.{◌∙◌, arith, rules}
use Rattle.row.proofs.ByteLaws.{lanes_of_bytes}
use Rattle.row.proofs.Row.from_bytes.Goals as goal

pub returns : goal.returns
returns c = c.from.ensures ∙ lanes_of_bytes c.args.b (omega arith) (λ k. search rules)
