use Rattle.std.proofs.Common.{◌≡◌, ◌^◌, ap, ◌∙◌, arith}
use lib.Lanes.{digits_l, number_l}
use Rattle.row.specs.Bytes.{row_bytes, bytes_row}
use Rattle.row.proofs.ByteLaws.{bytes_of_lanes, row_from_bytes}
use Rattle.row.proofs.Row.to_bytes.Goals as goal

pub returns : goal.returns
returns c =
    let x = c.args.self in
    let e : digits_l 256 16 (number_l (2 ^ 32) c.from.result) ≡ row_bytes x =
    ap (λ v. digits_l 256 16 (number_l (2 ^ 32) v)) c.from.ensures ∙ bytes_of_lanes x (omega (arith, c.well_formed)) in
    record { is = e; undone = ap bytes_row e ∙ row_from_bytes x (omega (arith, c.well_formed)) }
