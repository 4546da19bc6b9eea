use Rattle.std.proofs.Common.{◌≡◌, take}
use Rattle.cover.specs.Lists.{xored}
use Rattle.cover.proofs.rest.xor.Given as goal

abbrev pub invariant-loop-i : goal.invariant-loop-i
invariant-loop-i l = l.bytes ≡ xored l.initial.bytes (take l.i l.keys)
