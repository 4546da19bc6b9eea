use Rattle.std.proofs.Common.{◌≡◌, ℕ, ◌+◌, ◌-◌, ◌*◌, ◌≤◌, take, drop}
use Rattle.mother.specs.Generators.{Words, Reads}
use Rattle.keystream.specs.Keystreams.{memory, byte_at}
use Rattle.cover.specs.Lists.{covered}
use Rattle.cover.proofs.blocks.cover_group.Given as goal

abbrev pub invariant-loop-i : goal.invariant-loop-i
invariant-loop-i g l =
    let f = g.F.Filter in
    let old = l.initial.bytes in
    (drop (l.i * l.size) l.bytes ≡ drop (l.i * l.size) old)
    × ((ws : Words g.row.F-Word.Denot) (k : ℕ) → 1 ≤ k → l.initial.last ≡ memory f ws (2 * k - 1) → Reads ws.word (2 * k - 1) l.words
    → (take (l.i * l.size) l.bytes ≡ covered (byte_at f ws) (k * f.SIZE) (take (l.i * l.size) old))
    × (l.last ≡ memory f ws (2 * (k + l.i) - 1)))
