-- What undoes the operations on lanes and rows.
use Rattle.std.specs.Prelude.{◌≡◌, ℕ}
use Rattle.row.specs.declared.Row.{Row}
use Rattle.row.specs.Rows.{◌⊕◌, ◌>>₃₂◌, at2103, at0321, at1032, ps3, mix_row}

-- r undoes f at z: f takes r to z, and no other value that fits its type
pub record Undoes {A : Type 0} (Fits : A → Type 0) (f : A → A) (z r : A) : Type 0 where
  pub solves : f r ≡ z
  pub only : (y : A) → Fits y → f y ≡ z → r ≡ y

-- the row that ps1 takes to x
unfoldable pub unps1 : Row → Row
unps1 x = at0321 x ⊕ (at1032 x >>₃₂ 13 ⊕ at2103 x >>₃₂ 26)

-- ps3 taken 2, 4, 8 and 16 times: a step of twice the shift each
unfoldable pub undo2 : Row → Row
undo2 x = x ⊕ at1032 x >>₃₂ 2

unfoldable pub undo_by : ℕ → Row → Row
undo_by s x = x ⊕ x >>₃₂ s

-- the row that ps3 takes to x: ps3 taken 32 times leaves every row as it is, so it is ps3 taken 31 times
unfoldable pub unps3 : Row → Row
unps3 x = undo_by 16 (undo_by 8 (undo_by 4 (undo2 (ps3 x))))

-- the oldest row of a step, from the row that it gave
unfoldable pub unstep_row : Row → Row → Row → Row → Row
unstep_row mask new prev m = at2103 (mix_row mask prev m ⊕ new)
