use Rattle.std.proofs.Common.{◌≡◌, ◌≢◌, ◌≤◌, length, ◌∙◌, arith}
use Rattle.std.proofs.lemmas.Grind.{common_steps}
use Rattle.std.proofs.lemmas.Bool.Decides.{nat_tests}
use Rattle.mother.specs.Means.{means}
use Rattle.cover.proofs.Covering.{starts_alone, starts_join}
use Rattle.cover.proofs.blocks.cover_start.Goals as goal

pub returns-then-is_empty : goal.returns-then-is_empty
returns-then-is_empty g c ws at low =
    let f = g.F.Filter in
    let split = c.split_at_mut-head.ensures in
    let first = c.in_ok-rest.ensures ws at in
    let none : length c.split_at_mut-head.result.1.now ≡ 0 = grind (arith, common_steps, nat_tests) in
    let few : length c.split_at_mut-head.result.0.now ≤ f.SIZE = omega (arith, split.front_len, c.min.ensures, c.SIZE.ensures) in
    let all = starts_alone (means g.M.Mother) f g.met.F.Filter.some c.cover_first.new.mother c.in_ok-rest.last ws c.args.bytes.now _ _ _ _
    split.value none c.requires few first.0 first.1 first.2 in
    (all.0, all.1, first.3)

pub returns : goal.returns
returns g c ws at low =
    let f = g.F.Filter in
    let split = c.split_at_mut-head.ensures in
    let first = c.in_ok-rest.ensures ws at in
    let some : length c.split_at_mut-head.result.1.now ≢ 0 = grind (arith, common_steps, nat_tests) in
    let one : length c.split_at_mut-head.result.0.now ≡ f.SIZE =
    omega (arith, split.front_len, split.back_len, c.min.ensures, c.SIZE.ensures, some) in
    let all = starts_join (means g.M.Mother) f g.met.F.Filter.some c.cover_first.new.mother c.cover_from.new.mother c.in_ok-rest.last c.cover_from.new.memory ws
    c.args.bytes.now _ _ _ c.cover_from.new.bytes c.in_ok-rest-2.rest split.value one low first.0 first.1 c.in_ok-rest-2.ensures in
    (all.0, all.1, all.2 ∙ first.3)
