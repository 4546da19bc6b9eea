use Rattle.std.proofs.Common.{◌≡◌, ◌^◌, ◌<◌, ◌≤◌, length, drop}
use Rattle.digits.specs.Digits.{decimal_after}
use Rattle.digits.proofs.decimal.Given as goal

abbrev pub invariant-loop-b : goal.invariant-loop-b
invariant-loop-b l =
    (decimal_after l.value (drop l.b-index l.text) ≡ decimal_after 0 l.text)
    × (l.value < 10 ^ l.b-index)
    × (1 ≤ length l.text)
    × (length l.text ≤ 10)
