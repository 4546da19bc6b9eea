-- A refusal as text.
use Rattle.std.specs.Prelude.{ℕ, List, ◌++◌, codes, decimal}
use Rattle.refusal.specs.declared.Refusal.{Refusal}
use Rattle.refusal.specs.Numbers.{numbered}

abbrev pub refusal_text : Refusal → List ℕ
refusal_text e = codes "no " ++ decimal (numbered e)
