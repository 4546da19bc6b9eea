use Rattle.std.proofs.Common.{◌≡◌, ℕ, ◌+◌, ◌*◌, ◌/◌, ◌≤◌, length, take, drop}
use Rattle.mother.specs.Generators.{Words, limit}
use Rattle.mother.specs.Means.{means}
use Rattle.keystream.specs.Keystreams.{byte_at}
use Rattle.cover.specs.Lists.{covered}
use Rattle.cover.specs.Blocks.{AtBlock}
use Rattle.cover.proofs.blocks.cover_groups.Given as goal

abbrev pub invariant-loop-i : goal.invariant-loop-i
invariant-loop-i g l =
    let f = g.F.Filter in
    let old = l.initial.bytes in
    (drop (l.i * l.size) l.bytes ≡ drop (l.i * l.size) old)
    × ((ws : Words g.row.M-Word.Denot) (k : ℕ) → AtBlock (means g.M.Mother) f l.initial.mother l.initial.memory ws k
    → 2 * (k + 4 * (length old / (4 * f.SIZE))) ≤ limit
    → (take (l.i * l.size) l.bytes ≡ covered (byte_at f ws) (k * f.SIZE) (take (l.i * l.size) old))
    × AtBlock (means g.M.Mother) f l.mother l.memory ws (k + 4 * l.i)
    × (g.M.Mother.given l.mother ≡ g.M.Mother.given l.initial.mother))
