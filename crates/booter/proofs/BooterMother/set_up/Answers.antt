use Rattle.std.proofs.Common.{◌≡◌, Some, refl, ◌∙◌, arith}
use Rattle.std.proofs.lemmas.Option.{MatchOption-at_some}
use Rattle.mother.specs.Generators.{Lawful}
use Rattle.booter.proofs.Loads.{set_up_done}
use Rattle.booter.proofs.BooterMother.set_up.Goals as goal

pub returns : goal.returns
returns c =
    let key = c.args.key.now in
    let iv = c.args.iv.now in
    let some_key : c.of.result ≡ Some c.in_ok-key.key = grind arith in
    let some_iv : c.of-2.result ≡ Some c.in_ok-iv.iv = grind arith in
    let k = MatchOption-at_some (Lawful key → ⊥) (λ r. (r ≡ key) × Lawful key) _ some_key c.of.ensures in
    let v = MatchOption-at_some (Lawful iv → ⊥) (λ r. (r ≡ iv) × Lawful iv) _ some_iv c.of-2.ensures in
    let loaded = rw (k.0, v.0) at c.load-self.ensures in
    let e = set_up_done key iv k.1 v.1 _ c.idle.new.self c.front-self.result loaded c.idle.ensures c.front-self.ensures in (
      k.1,
      v.1,
      c.newest.ensures ∙ e.1,
      record { start = e.2; word = e.3; given = refl; place = c.front-self.ensures; sound = e.0 },
    )
