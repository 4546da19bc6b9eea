-- Steps on, one after another, with indices outside the ring.
use Rattle.std.proofs.Common.{◌≡◌, ℕ, ◌+◌, ◌<◌, ◌≤◌, List, length, get_or, set, sym, refl, ap, ◌∙◌, subst, arith, get_or-set_other, get_or-set_same, below_more}
use Rattle.std.proofs.lemmas.List.{length-set}
use Rattle.row.specs.declared.Row.{Row}
use Rattle.row.specs.Rows.{zeros, step_row}
use Rattle.handover.specs.declared.ring.Ring.{Ring}
use Rattle.handover.specs.Recursion.{mask, later, x}
use Rattle.handover.specs.Rings.{wrap, kth, newer, onwards, HeldAt}
use Rattle.handover.specs.Calls.{Held, Turning, TurnedInto}
use Rattle.row.proofs.Wraps.{wrap_ways, wrap_below, wrap_more, wrap_first, wrap_zero}
use Rattle.handover.proofs.Places.{held_onwards, held_same}
use Rattle.handover.proofs.Moves.{word_late}

-- an index that goes on by one stays as far behind the head
wrap_next : (n : ℕ) → n < 311 → wrap (wrap n + 1) ≡ wrap (n + 1)
wrap_next n h = grind (arith, wrap_ways 156 n, wrap_ways 156 (wrap n + 1), wrap_ways 156 (n + 1))

pub turning_none : (s : Ring) (words : List Row) (middle : ℕ) (newest : Row) → middle < 156 → middle ≡ wrap (s.head + 108) → newest ≡ kth s.rows s.head 155
    → Turning s s.rows s.head middle newest 0 words
unfolding Held
turning_none s words middle newest b m e =
    record {
      inside = s.inside;
      full = s.full;
      below = b;
      is_middle = m;
      is_newest = e;
      held = λ w n l h. subst (HeldAt w s.rows s.head) (omega arith) h;
      reads = λ w n l h k d lt. absurd (omega arith);
    }

module _ (s : Ring) (rows : List Row) (head middle : ℕ) (newest new : Row) (i : ℕ) (words : List Row)
    (t : Turning s rows head middle newest i words) (lt : i < length words)
    (made : new ≡ step_row mask newest (get_or rows middle zeros) (get_or rows head zeros)) where
  is_newer : new ≡ newer rows head
  is_newer = cc (wrap_zero 156 head t.inside)

  are_onwards : set rows head new ≡ onwards rows head
  are_onwards = cc (wrap_zero 156 head t.inside, is_newer)

  on : (w : ℕ → Row) (n : ℕ) → 156 ≤ n → Held w s n
      → (newer rows head ≡ x w (n + i + 1)) × HeldAt w (onwards rows head) (wrap (head + 1)) (n + i + 1)
  on w n l h = held_onwards w rows head t.full t.inside (n + i) (omega arith) (t.held w n l h)

  turning_more : Turning s (set rows head new) (wrap (head + 1)) (wrap (middle + 1)) new (i + 1) (set words i new)
  turning_more =
      record {
        inside = wrap_below 156 (head + 1) (omega (arith, t.inside));
        full = length-set rows head new ∙ t.full;
        below = wrap_below 156 (middle + 1) (omega (arith, t.below));
        is_middle = ap (λ k. wrap (k + 1)) t.is_middle ∙ wrap_next (head + 108) (omega (arith, t.inside))
            ∙ ap wrap (omega arith) ∙ sym (wrap_more 156 head 108 t.inside (omega arith));
        is_newest = sym (ap (λ j. get_or (set rows head new) j zeros) (wrap_first 156 head t.inside)
            ∙ get_or-set_same rows head new zeros (omega (arith, t.inside, t.full)));
        held = λ w n l h.
            subst (HeldAt w (set rows head new) (wrap (head + 1))) (omega arith)
            (held_same w _ _ _ _ (n + i + 1) are_onwards refl (on w n l h).1);
        reads = λ w n l h k d below.
            below_more (λ j. get_or (set words i new) j d ≡ later w (n + j)) i
            (λ j b. get_or-set_other words i j new d (λ e. omega arith) ∙ t.reads w n l h j d b)
            (get_or-set_same words i new d lt ∙ is_newer ∙ (on w n l h).0 ∙ sym (word_late w (n + i) (omega arith))) k below;
      }

-- the same under other names of the indices
pub turning_next : (s : Ring) (rows : List Row) (head middle head' middle' : ℕ) (newest new : Row) (i : ℕ) (words : List Row)
    → Turning s rows head middle newest i words → i < length words
    → new ≡ step_row mask newest (get_or rows middle zeros) (get_or rows head zeros) → head' ≡ wrap (head + 1) → middle' ≡ wrap (middle + 1)
    → Turning s (set rows head new) head' middle' new (i + 1) (set words i new)
turning_next s rows head middle head' middle' newest new i words t lt made e f =
    rw (e, f) (turning_more s rows head middle newest new i words t lt made)

pub turned_into : (s t : Ring) (middle : ℕ) (newest : Row) (i : ℕ) (words : List Row) → i ≡ length words
    → Turning s t.rows t.head middle newest i words → TurnedInto s t words
unfolding Held
turned_into s t middle newest i words all k =
    record {
      held = λ w n l h. subst (λ j. HeldAt w t.rows t.head (n + j)) all (k.held w n l h);
      reads = λ w n l h j d lt. k.reads w n l h j d (omega arith);
    }
