use Rattle.std.proofs.Common.{sym, arith}
use Rattle.row.proofs.Wraps.{wrap_low, wrap_high}
use Rattle.row.proofs.ring.wrapped.Goals as goal

pub returns-then-n-height : goal.returns-then-n-height
returns-then-n-height c =
    record { is = sym (wrap_low c.args.height c.args.n (omega arith)); below = λ l. omega arith }

pub returns-else-n-height : goal.returns-else-n-height
returns-else-n-height c =
    record { is = sym (wrap_high c.args.height c.args.n (omega arith)); below = λ l. omega arith }
