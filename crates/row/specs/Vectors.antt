-- A row as a vector, the list of its lanes from [0] up.
use Rattle.std.specs.Prelude.{ℕ, List, [], ◌∷◌, slice_index}
use Rattle.row.specs.declared.Row.{Row}
use Rattle.row.specs.Rows.{row}

abbrev pub lanes : Row → List ℕ
lanes x = x.l0 ∷ x.l1 ∷ x.l2 ∷ x.l3 ∷ []

abbrev pub lanes_row : List ℕ → Row
lanes_row v = row (slice_index v 3) (slice_index v 2) (slice_index v 1) (slice_index v 0)
