-- The wide filter: its memory is a row, and two memories give a block of 16 bytes.
use Rattle.std.specs.Prelude.{ℕ, ◌*◌, ◌%◌, ◌^◌, List, bit_or}
use Rattle.row.specs.declared.Row.{Row}
use Rattle.row.specs.Rows.{row, each, both, ◌⊗₃₂◌, ◌⊕◌, ◌&◌, ◌>>₃₂◌, ps3}
use Rattle.row.specs.Bytes.{row_bytes}

infixl 70 ◌<<₃₂◌
infixl 55 ◌∣◌
-- each lane shifted left, and the lanes' bits joined
abbrev pub ◌<<₃₂◌ : Row → ℕ → Row
x <<₃₂ s = each (λ a. a * 2 ^ s % 2 ^ 32) x

abbrev pub ◌∣◌ : Row → Row → Row
x ∣ y = both bit_or x y

abbrev pub lower16 : Row
lower16 = row 0x0000ffff 0x0000ffff 0x0000ffff 0x0000ffff

abbrev pub upper16 : Row
upper16 = row 0xffff0000 0xffff0000 0xffff0000 0xffff0000

-- f (y, x), the memory after the word x
abbrev pub stepped : Row → Row → Row
stepped y x = ps3 y ⊗₃₂ x

-- the output row of two memories, one after the other
unfoldable pub output : Row → Row → Row
output y y' = (y ⊕ y >>₃₂ 16) & lower16 ∣ (y' ⊕ y' <<₃₂ 16) & upper16

-- and its bytes, from the lower bits up
abbrev pub output_bytes : Row → Row → List ℕ
output_bytes y y' = row_bytes (output y y')
