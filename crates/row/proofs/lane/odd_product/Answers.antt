use Rattle.row.proofs.lane.odd_product.Goals as goal

pub returns : goal.returns
returns c = c.odd_product.ensures 0
