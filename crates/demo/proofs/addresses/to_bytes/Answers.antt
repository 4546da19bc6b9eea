use Rattle.std.proofs.Common.{◌≡◌, vec_items, ap, ◌∙◌, arith}
use Rattle.std.proofs.lemmas.List.{take_all}
use Rattle.demo.specs.Addresses.{bytes_of, addresses_of}
use Rattle.demo.proofs.Bytes.{addresses_back}
use Rattle.demo.proofs.addresses.to_bytes.Goals as goal

pub returns : goal.returns
returns c =
    let xs = c.args.addresses.now in
    let e : vec_items c.loop-a.bytes ≡ bytes_of c.args.addresses.now =
    c.loop-a.invariant ∙ ap bytes_of (take_all c.loop-a.a-index xs c.loop-a-test.false) in
    record { bytes = e; undone = ap addresses_of e ∙ addresses_back xs (λ k. omega (arith, c.type_inv.addresses k)) }
