-- What the ring holds after each call on it, and a set-up.
use Rattle.std.proofs.Common.{◌≡◌, ℕ, ◌+◌, ◌-◌, ◌<◌, ◌≤◌, List, set, sym, ap, ◌∙◌, subst, arith}
use Rattle.std.proofs.lemmas.Bool.{cond-false, le-ltb}
use Rattle.row.specs.declared.Row.{Row}
use Rattle.mother.specs.Generators.{Words, Generator, Front}
use Rattle.handover.specs.declared.ring.Ring.{Ring}
use Rattle.handover.specs.Recursion.{seed, x, later, over}
use Rattle.handover.specs.Rings.{wrap}
use Rattle.handover.specs.Calls.{Recorded, Held, TurnedOn, GoesOn, TurnedBack, GoesBack, Joined}
use Rattle.handover.proofs.Rows.{row_seeded}
use Rattle.handover.proofs.Turns.{kept_more}
use Rattle.handover.proofs.Places.{held_none, held_same, kept_same, held_more, held_last, held_onwards, held_newest, held_backwards, held_seam, held_fewer}

pub word_late : (w : ℕ → Row) (n : ℕ) → 156 ≤ n → later w n ≡ x w (n + 1)
word_late w n l = cond-false _ _ _ (le-ltb n 156 l)

pub nothing_held : (w : ℕ → Row) (s : Ring) (n : ℕ) → n ≡ 0 → Held w s n
unfolding Held
nothing_held w s n z = let P : ℕ → Type 0 = λ i. Held w s i in subst P (sym z) (held_none w s.rows s.head)

pub one_fewer : (w : ℕ → Row) (s : Ring) (n m : ℕ) → n < 155 → m ≡ n + 1 → Held w s m → Held w s n
unfolding Held
one_fewer w s n m l e h =
    let P : ℕ → Type 0 = λ i. Held w s i in
    held_fewer w s.rows s.head s.full s.inside n l (subst P e h)

module _ (s t : Ring) (r : Row) where
  -- word n put into the ring
  module _ (w : ℕ → Row) (n : ℕ) (rows : t.rows ≡ set s.rows (wrap (s.head + n)) r) (head : t.head ≡ s.head)
      (row : r ≡ seed w n) (held : Held w s n) where
    pub one_more : n < 155 → Held w t (n + 1)
    unfolding Held
    one_more l =
        held_same w _ _ _ _ (n + 1) rows head
        (held_more w s.rows s.head s.full s.inside n r l (row ∙ sym (row_seeded w n (omega arith))) held)

    pub all_recorded : n ≡ 155 → Recorded w t (n + 1)
    unfolding Held Recorded
    all_recorded l =
        kept_same w _ _ _ _ (n + 1) rows head
        (kept_more w s.rows s.head n r s.full s.inside (omega arith) (row ∙ sym (row_seeded w n (omega arith)))
        (held.early (omega arith)))

  pub goes_on : TurnedOn s r t → GoesOn s r t
  unfolding Held Recorded
  goes_on e =
      record {
        word = λ w n l h. e.row ∙ (held_onwards w s.rows s.head s.full s.inside n l h).0 ∙ sym (word_late w n l);
        held = λ w n l h. held_same w _ _ _ _ (n + 1) e.rows e.head
            (held_onwards w s.rows s.head s.full s.inside n l h).1;
        seam = λ w n l k. held_same w _ _ _ _ (n + 1) e.rows e.head
            (held_last w s.rows s.head s.full s.inside n l k);
      }

  pub goes_back : TurnedBack s r t → GoesBack s r t
  unfolding Held
  goes_back e =
      record {
        word = λ w n l h.
            let same : n ≡ n - 1 + 1 = omega arith in
            e.row
            ∙ held_newest w s.rows s.head s.full s.inside n (omega arith) h
            ∙ ap (x w) same
            ∙ sym (word_late w (n - 1) (omega arith));
        held = λ w n l h. held_same w _ _ _ _ (n - 1) e.rows e.head
            (held_backwards w s.rows s.head s.full s.inside n l h);
        seam = λ w n m l q h.
            let P : ℕ → Type 0 = λ i. Held w s i in
            held_same w _ _ _ _ n e.rows e.head
            (held_seam w s.rows s.head s.full s.inside n l (subst P q h));
      }

abbrev each_over : (List ℕ → List ℕ → Words Row) → List ℕ → List ℕ → Words Row
each_over h key iv = over (h key iv)

-- what a set-up of the generator below makes of the hand-over
module _ {S : Type 0} (m : Generator S Row) (s s' : S) (key iv : List ℕ) (f : Front m s key iv s') where
  pub word_over : later (m.word s') ≡ later (m.given s key iv).word
  word_over = ap later f.word

  pub given_over : each_over (m.given s') ≡ each_over (m.given s)
  given_over = ap each_over f.given

  pub joined_over : (ring : Ring) (n : ℕ) → n ≡ 0 → Joined m s' ring n
  joined_over ring n z =
      record { sound = f.sound; place = omega (arith, f.place); held = nothing_held (m.word s') ring n z }
