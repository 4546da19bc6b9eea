-- What undoes an operation, from the two laws of its inverse.
use Rattle.std.proofs.Common.{◌≡◌, sym, ap, ◌∙◌}
use Rattle.row.specs.Undone.{Undoes}

pub undoes_by : {A : Type 0} (Fits : A → Type 0) (f g : A → A) (z r : A) → r ≡ g z → f (g z) ≡ z
    → ((y : A) → Fits y → g (f y) ≡ y) → Undoes Fits f z r
undoes_by Fits f g z r e onto back =
    record { solves = ap f e ∙ onto; only = λ y h q. e ∙ ap g (sym q) ∙ back y h }
