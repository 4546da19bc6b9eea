use Rattle.std.proofs.Common.{◌≡◌, length}
use Rattle.booter.specs.Loading.{filled, twice}
use Rattle.booter.proofs.register.loading.write_rows.Given as goal

abbrev pub invariant-loop-i : goal.invariant-loop-i
invariant-loop-i l = l.rows ≡ filled (twice l.fn.key l.fn.iv) (length l.yielded)
