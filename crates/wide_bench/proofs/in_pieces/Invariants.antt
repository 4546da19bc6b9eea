use Rattle.std.proofs.Common.{◌≡◌, ℕ, ◌+◌, ◌*◌, ◌^◌, ◌≤◌, min, length, take, drop}
use Rattle.mother.specs.Generators.{Words}
use Rattle.mother.specs.Means.{means}
use Rattle.keystream.specs.Keystreams.{byte_at}
use Rattle.cover.specs.Lists.{covered}
use Rattle.cover.specs.Covers.{Ready}
use Rattle.wide_bench.proofs.in_pieces.Given as goal

abbrev pub invariant-loop-i : goal.invariant-loop-i
invariant-loop-i g l =
    let old = l.initial.bytes in
    let at : ℕ = min (l.i * l.size) (length old) in
    (drop at l.bytes ≡ drop at old)
    × ((ws : Words g.row.M-Word.Denot) (p : ℕ) → Ready (means g.M.Mother) g.F.Filter l.initial.cover ws p → p + length old ≤ 2 ^ 32
    → (take at l.bytes ≡ covered (byte_at g.F.Filter ws) p (take at old)) × Ready (means g.M.Mother) g.F.Filter l.cover ws (p + at))
