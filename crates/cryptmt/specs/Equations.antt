-- CryptMT Version 3 by the equations that define it, with the wide filter and with the narrow ones. Nothing here is
-- computed: it says which sequences are the cipher's.
use Rattle.std.specs.Prelude.{◌≡◌, ℕ, ◌+◌, ◌-◌, ◌*◌, ◌/◌, ◌%◌, ◌^◌, ◌<◌, List, length, bit_or, slice_index}
use Rattle.row.specs.declared.Row.{Row}
use Rattle.row.specs.Rows.{row, ◌+₃₂◌, ◌-₃₂◌, ◌⊗₃₂◌, ◌⊕◌, ◌&◌, ◌>>₃₂◌, ◌>>₆₄◌, odd, at2031, at0321, ps1, ps2, ps3}
use Rattle.row.specs.Bytes.{row_at, row_bytes}
use Rattle.keystream.specs.Wides.{◌<<₃₂◌, ◌∣◌, lower16, upper16}

-- how many rows of 16 bytes a key or an IV has, and row i of it
abbrev pub rows : List ℕ → ℕ
rows bytes = length bytes / 16

abbrev pub row_of : List ℕ → ℕ → Row
row_of bytes i = row_at bytes (16 * i)

-- H, how many rows the booter's register has
abbrev pub H : List ℕ → List ℕ → ℕ
H key iv = 2 * (rows iv + rows key)

-- MASK, with full words of 8 digits, and the row that is added to the last of the register
abbrev pub mask : Row
mask = row 0xffdfafdf 0xf5dabfff 0xffdbffff 0xef7bffff

abbrev pub added_constant : Row
added_constant = row 846264 979323 265358 314159

-- lane [3] replaced by the constant that keeps the period of the recursion long
abbrev pub marked : Row → Row
marked r = row 0x4d734e48 r.l2 r.l1 r.l0

-- the generators. b_j and a_j: the booter's rows and accumulators. w_i: the words that a filter takes in. x_j: the rows
-- of the recursion
pub record Rows : Type 0 where
  pub b : ℕ → Row
  pub a : ℕ → Row
  pub w : ℕ → Row
  pub x : ℕ → Row

pub record Generated (key iv : List ℕ) (s : Rows) : Type 0 where
  -- the register: IV, key, IV and key, and a constant added to the last row
  pub iv_first : (i : ℕ) → i < rows iv → s.b i ≡ row_of iv i
  pub key_first : (i : ℕ) → i < rows key → s.b (rows iv + i) ≡ row_of key i
  pub iv_second : (i : ℕ) → i < rows iv → s.b (rows iv + rows key + i) ≡ row_of iv i
  pub key_second : (i : ℕ) → i + 1 < rows key → s.b (rows iv + rows key + rows iv + i) ≡ row_of key i
  pub last : s.b (H key iv - 1) ≡ row_of key (rows key - 1) +₃₂ added_constant
  -- step j of the booter; before step 0 the accumulator is the key's first row with the lowest bit of each lane set
  pub turn_first : s.a 0 ≡ odd (row_of key 0) ⊗₃₂ ps2 (s.b (H key iv - 1))
  pub turn : (j : ℕ) → s.a (j + 1) ≡ s.a j ⊗₃₂ ps2 (s.b (H key iv + j))
  pub fed_back : (j : ℕ) → s.b (H key iv + j) ≡ ps1 (s.b j +₃₂ s.b (H key iv + j - 2)) -₃₂ s.a j
  -- after H + 2 idle steps the booter's outputs are the first 156 words
  pub word_first : (i : ℕ) → i < 156 → s.w i ≡ s.b (H key iv + 2 + i) +₃₂ s.b (H key iv + (H key iv + 2 + i) - 2)
  -- from these words the recursion goes on, with the constant in x_0, and x_156 is passed over
  pub row_marked : s.x 0 ≡ marked (s.w 0)
  pub row_first : (i : ℕ) → 0 < i → i < 156 → s.x i ≡ s.w i
  pub row_next : (j : ℕ)
      → s.x (156 + j) ≡ s.x (155 + j) & mask ⊕ s.x (108 + j) >>₆₄ 3 ⊕ at2031 (s.x (108 + j)) ⊕ at0321 (s.x j)
  pub word_next : (i : ℕ) → s.w (156 + i) ≡ s.x (157 + i)

-- the start word: the row fed back in the last idle step
abbrev pub start_row : List ℕ → List ℕ → Rows → Row
start_row key iv s = s.b (2 * H key iv + 1)

-- with the wide filter. y_m: the memories. z_i: the output rows
pub record Sequences : Type 0 where
  pub below : Rows
  pub y : ℕ → Row
  pub z : ℕ → Row

pub record CryptMT (key iv : List ℕ) (s : Sequences) : Type 0 where
  pub generated : Generated key iv s.below
  -- the filter begins with the start word, and takes in the words
  pub memory_first : s.y 0 ≡ start_row key iv s.below
  pub memory_next : (m : ℕ) → s.y (m + 1) ≡ ps3 (s.y m) ⊗₃₂ s.below.w m
  -- two memories give an output row
  pub output : (i : ℕ)
      → s.z i ≡ (s.y (2 * i) ⊕ s.y (2 * i) >>₃₂ 16) & lower16 ∣ (s.y (2 * i + 1) ⊕ s.y (2 * i + 1) <<₃₂ 16) & upper16

-- the keystream: the bytes of the output rows, from the lower bits up
abbrev pub byte_of : Sequences → ℕ → ℕ
byte_of s p = slice_index (row_bytes (s.z (p / 16))) (p % 16)

-- with a narrow filter. v_n: the lanes of the words as words of their own. y_m: the memories
pub record Narrows : Type 0 where
  pub below : Rows
  pub v : ℕ → ℕ
  pub y : ℕ → ℕ

-- its step is f: y × (x with its lowest bit set) modulo 2 ^ 32, or the odd product
pub record Narrow (f : ℕ → ℕ → ℕ) (key iv : List ℕ) (s : Narrows) : Type 0 where
  pub generated : Generated key iv s.below
  -- four words a row, from lane [0] up
  pub lane_0 : (i : ℕ) → s.v (4 * i) ≡ (s.below.w i).l0
  pub lane_1 : (i : ℕ) → s.v (4 * i + 1) ≡ (s.below.w i).l1
  pub lane_2 : (i : ℕ) → s.v (4 * i + 2) ≡ (s.below.w i).l2
  pub lane_3 : (i : ℕ) → s.v (4 * i + 3) ≡ (s.below.w i).l3
  -- the filter begins with lane [0] of the start word, its lowest bit set, and takes in the words
  pub memory_first : s.y 0 ≡ bit_or (start_row key iv s.below).l0 1
  pub memory_next : (m : ℕ) → s.y (m + 1) ≡ f (s.y m) (s.v m)

-- the keystream: a byte from each memory, its top 8 bits
abbrev pub narrow_byte_of : Narrows → ℕ → ℕ
narrow_byte_of s p = s.y p / 2 ^ 24
