use Rattle.std.proofs.Common.{length, vec_items}
use Rattle.digits.specs.Digits.{decimal_of}
use Rattle.digits.specs.Cuts.{pieces_of}
use Rattle.digits.proofs.Gathering.{Gathered}
use Rattle.digits.proofs.fields.decimals.Given as goal

abbrev pub invariant-loop-piece : goal.invariant-loop-piece
invariant-loop-piece l = Gathered decimal_of (pieces_of l.fn.at l.text) (length l.yielded) (vec_items l.numbers)
