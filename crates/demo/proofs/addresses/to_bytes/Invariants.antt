use Rattle.std.proofs.Common.{◌≡◌, take, vec_items}
use Rattle.demo.specs.Addresses.{bytes_of}
use Rattle.demo.proofs.addresses.to_bytes.Given as goal

abbrev pub invariant-loop-a : goal.invariant-loop-a
invariant-loop-a l = vec_items l.bytes ≡ bytes_of (take l.a-index l.addresses)
