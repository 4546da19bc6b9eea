-- A generator that goes on and back, move by move.
use Rattle.std.proofs.Common.{◌≡◌, ℕ, List, map, take, refl, ◌∙◌}
use Rattle.mother.specs.Generators.{Generator, Stays}
use Rattle.walk.specs.Visits.{Among, Low}

-- from state s to t the words stay, and the place is now n
pub record Went {S W : Type 0} (m : Generator S W) (s t : S) (n : ℕ) : Type 0 where
  pub sound : m.sound t
  pub stays : Stays m s t n

-- one walk after another
pub among_then : {S W : Type 0} (m : Generator S W) (s t u : S) → Among m s t → m.sound u → m.start u ≡ m.start t
    → m.word u ≡ m.word t → m.given u ≡ m.given t → Among m s u
among_then m s t u a h start word given = (
  h,
  record { start = start ∙ a.1.start; word = word ∙ a.1.word; given = given ∙ a.1.given; place = refl },
)

-- the first n of the places are visited: ws are the words there
pub record Seen {S W : Type 0} (m : Generator S W) (s : S) (places : List ℕ) (n : ℕ) (ws : List W) : Type 0 where
  pub low : Low m places n
  pub words : ws ≡ map (m.word s) (take n places)
