-- The worked values of the cipher, in one table: what the definitions give, and beside it what that is.
-- A row is written from lane [3] to lane [0].
use Rattle.std.specs.Prelude.{◌≡◌, ℕ, cond, List, [], ◌∷◌, map, replicate, ◌==◌}
use Rattle.row.specs.declared.Row.{Row}
use Rattle.row.specs.Lanes.{◌⊗◌}
use Rattle.row.specs.Rows.{row, zeros, ps1, ps2, ps3, step_row}
use Rattle.booter.specs.Sequences as booter
use Rattle.handover.specs.Recursion.{mask}
use Rattle.keystream.specs.Wides.{output_bytes}

-- what is given, and what it should be: a number, a row or bytes
pub record Value : Type 0 where
  pub given : List ℕ
  pub said : List ℕ

abbrev pub bytes : List ℕ → List ℕ → Value
bytes given said = record { given = given; said = said }

abbrev pub number : ℕ → ℕ → Value
number given said = bytes (given ∷ []) (said ∷ [])

abbrev pub lanes : Row → List ℕ
lanes r = r.l3 ∷ r.l2 ∷ r.l1 ∷ r.l0 ∷ []

abbrev pub rows : Row → Row → Value
rows given said = bytes (lanes given) (lanes said)

-- an IV and a key of one row of zeros each: the booter's register has four rows
abbrev pub key : List ℕ
key = replicate 16 0

abbrev pub iv : List ℕ
iv = replicate 16 0

-- rows of the recursion that are all zero, but x_108
abbrev pub x : ℕ → Row
x j = cond (j == 108) (row 0 0 0 8) zeros

-- a memory of the wide filter
abbrev pub y : Row
y = row 0 0 0 0x00010203

abbrev pub table : List Value
table =
    -- the odd product
    number (1 ⊗ 1) 4
    ∷ number (2 ⊗ 3) 17
    ∷ number (0xffffffff ⊗ 0xffffffff) 0
    ∷ number (1 ⊗ 0x55555555) 0
    -- the perm-shifts
    ∷ rows (ps1 (row 0 0 0 1)) (row 0 0 1 0)
    ∷ rows (ps2 (row 0 0 0 1)) (row 0 1 0 0)
    ∷ rows (ps3 (row 0 0 0 2)) (row 1 0 0 2)
    -- step 0 of the booter: the accumulator, the row fed back and the output
    ∷ rows (booter.a key iv 0) (row 796474 942292 2938351 2538340)
    ∷ rows (booter.x key iv 4) (row 4294170822 4294025004 4292028945 4292428956)
    ∷ rows (booter.o key iv 0) (row 0 0 0 0)
    -- x_156 of the recursion
    ∷ rows (step_row mask (x 155) (x 108) (x 0)) (row 0 8 0 1)
    -- the block of two memories
    ∷ bytes (output_bytes y y) (2 ∷ 2 ∷ 2 ∷ 2 ∷ 0 ∷ 0 ∷ 0 ∷ 0 ∷ 0 ∷ 0 ∷ 0 ∷ 0 ∷ 0 ∷ 0 ∷ 0 ∷ 0 ∷ [])
    ∷ []

abbrev pub ValuesStand : Type 0
ValuesStand = map (λ v. v.given) table ≡ map (λ v. v.said) table
