use Rattle.std.proofs.Common.{map, ap, ◌∙◌, arith}
use Rattle.std.proofs.lemmas.Result.{IfOk-weaker}
use Rattle.demo.specs.Addresses.{bytes_of, of_four}
use Rattle.demo.proofs.Bytes.{of_fours, bytes_back}
use Rattle.demo.proofs.addresses.from_bytes.Goals as goal

pub returns : goal.returns
returns c =
    let bytes = c.args.bytes.now in
    let same = ap (map of_four) c.as_chunks.ensures.front ∙ of_fours bytes in
    record {
      addresses = IfOk-weaker c.words.result _ _ (λ v is. is ∙ same) c.words.ensures;
      undone = IfOk-weaker c.words.result _ _
          (λ v is whole. ap bytes_of (is ∙ same) ∙ bytes_back bytes (λ k. omega (arith, c.type_inv.bytes k)) whole)
          c.words.ensures;
    }
