use Rattle.row.proofs.ByteLaws.{row_from_bytes, bytes_from_row}
use Rattle.row.proofs.bytes_stand.Goals as goal

pub returns : goal.returns
returns c = (row_from_bytes, bytes_from_row)
