-- A filter's step undone.
use Rattle.std.specs.Prelude.{◌≡◌}

-- r is the memory that the word x took to z, whichever memory that was
abbrev pub TakenBack : {Y W : Type 0} → (Y → Type 0) → (Y → W → Y) → Y → W → Y → Type 0
TakenBack {Y} held step z x r = (y : Y) → held y → step y x ≡ z → r ≡ y
