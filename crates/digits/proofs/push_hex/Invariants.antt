use Rattle.std.proofs.Common.{◌≡◌, ◌++◌, take, vec_items}
use Rattle.digits.specs.Digits.{spelled}
use Rattle.digits.proofs.push_hex.Given as goal

abbrev pub invariant-loop-b : goal.invariant-loop-b
invariant-loop-b l = vec_items l.text ≡ vec_items l.initial.text ++ spelled (take l.b-index l.bytes)
