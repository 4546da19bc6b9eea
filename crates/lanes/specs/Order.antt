-- The lanes of a list of rows in their order, as words of 32 bits.
use Rattle.std.specs.Prelude.{◌≡◌, ℕ, ◌+◌, ◌*◌, ◌/◌, ◌%◌}
use Rattle.row.specs.declared.Row.{Row}
use Rattle.row.specs.Rows.{lane_in}
use Rattle.mother.specs.Generators.{Words}

-- word n, where w has the rows: four words a row
abbrev pub lanes_of : (ℕ → Row) → ℕ → ℕ
lanes_of w n = lane_in (w (n / 4)) (n % 4)

abbrev pub in_lanes : Words Row → Words ℕ
in_lanes ws = record { start = lane_in ws.start 0; word = lanes_of ws.word }

-- the start word, and the words of lanes [0], [1], [2] and [3]
abbrev pub StartWord : Type 0
StartWord = (ws : Words Row) → (in_lanes ws).start ≡ ws.start.l0

abbrev pub Words0 : Type 0
Words0 = (ws : Words Row) (i : ℕ) → (in_lanes ws).word (4 * i) ≡ (ws.word i).l0

abbrev pub Words1 : Type 0
Words1 = (ws : Words Row) (i : ℕ) → (in_lanes ws).word (4 * i + 1) ≡ (ws.word i).l1

abbrev pub Words2 : Type 0
Words2 = (ws : Words Row) (i : ℕ) → (in_lanes ws).word (4 * i + 2) ≡ (ws.word i).l2

abbrev pub Words3 : Type 0
Words3 = (ws : Words Row) (i : ℕ) → (in_lanes ws).word (4 * i + 3) ≡ (ws.word i).l3
