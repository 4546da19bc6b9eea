use Rattle.std.proofs.Common.{◌≡◌, ℕ, ◌+◌, ◌-◌, ◌*◌, ◌^◌, ◌≤◌, length, arith}
use Rattle.std.proofs.lemmas.Grind.{common_steps}
use Rattle.std.proofs.lemmas.Bool.Decides.{nat_tests}
use Rattle.mother.specs.Means.{means}
use Rattle.cover.proofs.Covering.{low_blocks, ends_join, ends_alone}
use Rattle.cover.proofs.Pieces.{whole_front}
use Rattle.cover.proofs.blocks.cover_from.Goals as goal

-- the blocks before the last part end within the positions
within : (i k size front back long : ℕ) → front ≡ k * size → back + front ≡ long → i * size + long ≤ 2 ^ 32 → (i + k) * size ≤ 2 ^ 32
within i k size front back long is sum low = let e : (i + k) * size ≡ i * size + k * size = omega arith in omega arith

pub returns-in_err-cover_whole : goal.returns-in_err-cover_whole
returns-in_err-cover_whole g c ws i at low =
    let f = g.F.Filter in
    let some = g.met.F.Filter.some in
    let split = c.split_at_mut-blocks.ensures in
    let blocks = whole_front c.SIZE-size.result f.SIZE (length c.args.bytes.now) _ c.SIZE-size.ensures some split.front_len in
    absurd (c.in_err-cover_whole.ensures ws i at (low_blocks (means g.M.Mother) f some i _ (within i _ f.SIZE _ (length c.split_at_mut-blocks.result.1.now) (length c.args.bytes.now) blocks
    (omega (arith, split.front_len, split.back_len)) low)))

pub returns-then-is_empty : goal.returns-then-is_empty
returns-then-is_empty g c =
    let f = g.F.Filter in
    let some = g.met.F.Filter.some in
    let split = c.split_at_mut-blocks.ensures in
    let blocks = whole_front c.SIZE-size.result f.SIZE (length c.args.bytes.now) _ c.SIZE-size.ensures some split.front_len in
    let none : length c.split_at_mut-blocks.result.1.now ≡ 0 = grind (arith, common_steps, nat_tests) in
    ends_alone (means g.M.Mother) f some c.args.mother.now c.cover_whole.new.mother c.args.memory.now c.cover_whole.new.memory c.args.bytes.now _ _
    c.cover_whole.new.bytes c.none.result _ split.value blocks none c.none.ensures c.in_ok-cover_whole.ensures

pub returns : goal.returns
returns g c =
    let f = g.F.Filter in
    let some = g.met.F.Filter.some in
    let split = c.split_at_mut-blocks.ensures in
    let blocks = whole_front c.SIZE-size.result f.SIZE (length c.args.bytes.now) _ c.SIZE-size.ensures some split.front_len in
    ends_join (means g.M.Mother) f some c.args.mother.now c.cover_whole.new.mother c.cover_last.new.mother
    c.args.memory.now c.cover_whole.new.memory c.cover_last.new.memory c.args.bytes.now _ _ c.cover_whole.new.bytes c.cover_last.new.bytes
    _ c.cover_last.result split.value blocks c.in_ok-cover_whole.ensures c.cover_last.ensures
