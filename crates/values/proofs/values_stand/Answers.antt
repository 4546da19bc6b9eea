-- Every entry computes.
use Rattle.std.proofs.Common.{refl}
use Rattle.row.specs.Lanes.{◌⊗◌}
use Rattle.row.specs.Rows.{ps1, ps2, ps3, ◌>>₆₄◌, mix_row, step_row}
use Rattle.row.specs.Bytes.{row_bytes, row_at}
use Rattle.booter.specs.Registers.{wrap, output, turned, fed, onward, x_from, a_from, o_from}
use Rattle.booter.specs.Loading.{once, twice, loaded}
use Rattle.keystream.specs.Wides.{output as output_row}
use Rattle.values.proofs.values_stand.Goals as goal

pub returns : goal.returns
unfolding ◌⊗◌ ps1 ps2 ps3 ◌>>₆₄◌ mix_row step_row row_bytes row_at wrap once twice loaded output turned fed onward
    x_from a_from o_from output_row
returns c = refl
