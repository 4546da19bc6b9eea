use Rattle.std.proofs.Common.{◌≡◌, ℕ, ◌/◌, ◌^◌, ◌<◌, sym, ap, ◌∙◌, arith, lit≤}
use lib.Bits.{bit_xor, or_zero_r}
use Rattle.row.specs.Rows.{mix_row, ◌>>₆₄◌}
use Rattle.row.proofs.RowLaws.{same_row}
use Rattle.row.proofs.Wide.{wide_high, wide_low}
use Rattle.row.proofs.recursion.mix.Goals as goal

between : (a b s t : ℕ) → s ≡ t → bit_xor (bit_xor a s) b ≡ bit_xor (bit_xor a t) b
between a b s t e = ap (λ z. bit_xor (bit_xor a z) b) e

pub returns : goal.returns
unfolding mix_row ◌>>₆₄◌
returns c =
    let m = c.args.m in
    let h2 : m.l2 < 2 ^ 32 = omega arith in
    let h0 : m.l0 < 2 ^ 32 = omega arith in
    rw (c.from-v.ensures, c.from.ensures, c.from-2.ensures) at c.from-3.ensures
    ∙ same_row
    (between _ _ _ _ (or_zero_r (m.l3 / 8) ∙ sym (wide_high 3 m.l3 m.l2 h2)))
    (between _ _ _ _ (sym (wide_low 3 m.l3 m.l2 (lit≤ tt) h2)))
    (between _ _ _ _ (or_zero_r (m.l1 / 8) ∙ sym (wide_high 3 m.l1 m.l0 h0)))
    (between _ _ _ _ (sym (wide_low 3 m.l1 m.l0 (lit≤ tt) h0)))
