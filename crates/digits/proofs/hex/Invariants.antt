use Rattle.std.proofs.Common.{vec_items}
use Rattle.digits.specs.Digits.{pair_of}
use Rattle.digits.proofs.Gathering.{Gathered}
use Rattle.digits.proofs.hex.Given as goal

abbrev pub invariant-loop-pair : goal.invariant-loop-pair
invariant-loop-pair l = Gathered pair_of l.pairs l.pair-index (vec_items l.out)
