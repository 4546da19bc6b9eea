use Rattle.row.proofs.RowLaws.{same_row}
use Rattle.row.proofs.Row.odd_product.Goals as goal

pub returns : goal.returns
returns c =
    let e = c.odd_product.ensures in
    same_row (e 3) (e 2) (e 1) (e 0)
