-- The sequences of a key and an IV: the rows x_j, the accumulators a_j, the outputs o_j and the words w_i.
use Rattle.std.specs.Prelude.{◌≡◌, ℕ, ◌+◌, ◌-◌, ◌*◌, ◌<◌, List}
use Rattle.row.specs.declared.Row.{Row}
use Rattle.row.specs.Rows.{◌+₃₂◌, ◌-₃₂◌, ◌⊗₃₂◌, odd, ps1, ps2}
use Rattle.mother.specs.Generators.{Words, Lawful}
use Rattle.booter.specs.Registers.{x_from, a_from, o_from}
use Rattle.booter.specs.Loading.{count, row_of, height, constant, loaded}

abbrev pub x : List ℕ → List ℕ → ℕ → Row
x key iv j = x_from (height key iv) (loaded key iv) j

abbrev pub a : List ℕ → List ℕ → ℕ → Row
a key iv j = a_from (height key iv) (loaded key iv) j

abbrev pub o : List ℕ → List ℕ → ℕ → Row
o key iv j = o_from (height key iv) (loaded key iv) j

-- steps 0 to H + 1 are idle
abbrev pub words : List ℕ → List ℕ → Words Row
words key iv =
    record {
      start = x key iv (2 * height key iv + 1);
      word = λ i. o key iv (height key iv + 2 + i);
    }

-- all that fixes them, for an IV of v rows, a key of k rows and a register of H rows
pub record Equations (v k H : ℕ) (ivRow keyRow x a o : ℕ → Row) (w : Words Row) : Type 0 where
  -- x_0 to x_(H-1): IV, key, IV, key, with the constant added to the last row
  pub height : H ≡ 2 * (v + k)
  pub iv_first : (i : ℕ) → i < v → x i ≡ ivRow i
  pub key_first : (i : ℕ) → i < k → x (v + i) ≡ keyRow i
  pub iv_second : (i : ℕ) → i < v → x (v + k + i) ≡ ivRow i
  pub key_second : (i : ℕ) → i + 1 < k → x (v + k + v + i) ≡ keyRow i
  pub last_row : x (H - 1) ≡ keyRow (k - 1) +₃₂ constant
  -- step j
  pub accumulator_first : a 0 ≡ odd (keyRow 0) ⊗₃₂ ps2 (x (H - 1))
  pub accumulator : (j : ℕ) → a (j + 1) ≡ a j ⊗₃₂ ps2 (x (H + j))
  pub fed_back : (j : ℕ) → x (H + j) ≡ ps1 (x j +₃₂ x (H + j - 2)) -₃₂ a j
  pub output : (j : ℕ) → o j ≡ x j +₃₂ x (H + j - 2)
  -- the words
  pub start : w.start ≡ x (2 * H + 1)
  pub word : (i : ℕ) → w.word i ≡ o (H + 2 + i)

abbrev pub SequencesStand : Type 0
SequencesStand = (key iv : List ℕ) → Lawful key → Lawful iv
    → Equations (count iv) (count key) (height key iv) (row_of iv) (row_of key) (x key iv) (a key iv) (o key iv) (words key iv)
