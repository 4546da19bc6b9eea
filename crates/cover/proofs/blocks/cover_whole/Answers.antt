use Rattle.std.proofs.Common.{length, arith}
use Rattle.mother.specs.Means.{means}
use Rattle.cover.proofs.Covering.{blocks_join}
use Rattle.cover.proofs.Pieces.{groups_of}
use Rattle.cover.proofs.blocks.cover_whole.Goals as goal

pub cover_singly-requires : goal.cover_singly-requires
cover_singly-requires g c =
    let split = c.split_at_mut-groups.ensures in
    let parts = groups_of c.SIZE-size.result g.F.Filter.SIZE (length c.args.bytes.now) _ _ c.SIZE-size.ensures (omega (arith, g.met.F.Filter.some)) c.requires split.front_len split.back_len in
    parts.others

pub returns-in_err-cover_groups : goal.returns-in_err-cover_groups
returns-in_err-cover_groups g c ws i at low =
    let split = c.split_at_mut-groups.ensures in
    let parts = groups_of c.SIZE-size.result g.F.Filter.SIZE (length c.args.bytes.now) _ _ c.SIZE-size.ensures (omega (arith, g.met.F.Filter.some)) c.requires split.front_len split.back_len in
    absurd (c.in_err-cover_groups.ensures ws i at (omega (arith, parts.count)))

pub returns : goal.returns
returns g c =
    let split = c.split_at_mut-groups.ensures in
    let parts = groups_of c.SIZE-size.result g.F.Filter.SIZE (length c.args.bytes.now) _ _ c.SIZE-size.ensures (omega (arith, g.met.F.Filter.some)) c.requires split.front_len split.back_len in
    blocks_join (means g.M.Mother) g.F.Filter g.met.F.Filter.some c.args.mother.now c.cover_groups.new.mother c.cover_singly.new.mother
    c.args.memory.now c.cover_groups.new.memory c.cover_singly.new.memory c.args.bytes.now _ _ c.cover_groups.new.bytes c.cover_singly.new.bytes
    _ _ _ c.cover_singly.result split.value parts.blocks parts.count c.in_ok-cover_groups.ensures c.cover_singly.ensures
