use Rattle.mother.specs.Means.{means}
use Rattle.handover.proofs.Moves.{word_over, given_over, joined_over}
use Rattle.handover.proofs.HandoverMother.set_up.Goals as goal

pub returns : goal.returns
returns g c =
    let m = means g.M.Mother in
    let s = c.args.self.now in
    let key = c.args.key.now in
    let iv = c.args.iv.now in
    let e = c.in_ok-start.ensures in
    let f = e.3 in (
      e.0,
      e.1,
      e.2,
      record {
        start = f.start;
        word = word_over m s.below c.set_up.new.self key iv f;
        given = given_over m s.below c.set_up.new.self key iv f;
        place = c.front-self.ensures;
        sound = joined_over m s.below c.set_up.new.self key iv f s.ring _ c.front-self.ensures;
      },
    )
