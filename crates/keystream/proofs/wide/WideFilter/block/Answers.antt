use Rattle.std.proofs.Common.{◌≡◌, take, refl, ap, ◌∙◌}
use Rattle.row.specs.declared.Row.{Row}
use Rattle.row.specs.Bytes.{row_bytes}
use Rattle.keystream.proofs.wide.WideFilter.block.Goals as goal

-- all of a row's bytes
all : (x : Row) → take 16 (row_bytes x) ≡ row_bytes x
unfolding row_bytes
all x = refl

pub returns : goal.returns
returns c = ap (take 16) c.to_bytes.ensures.is ∙ all _ ∙ ap row_bytes c.output_row.ensures
