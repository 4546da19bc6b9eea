use Rattle.std.proofs.Common.{sym}
use Rattle.row.specs.Rows.{ps3}
use Rattle.row.proofs.RowFits.{lanes_ps3}
use Rattle.keystream.proofs.wide.WideTwoWayFilter.undo.Goals as goal

-- the quotient is the perm-shift of the memory before, and no other row has that perm-shift
pub returns : goal.returns
returns c y h e =
    c.undo_perm_shift3.ensures.undoes.only y h (sym (c.odd_quotient.ensures.undoes.only (ps3 y) (lanes_ps3 y h) e))
