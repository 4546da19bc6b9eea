-- Words read to a list, one by one.
use Rattle.std.proofs.Common.{◌≡◌, ℕ, ◌+◌, ◌<◌, ◌≤◌, List, length, get_or, set, Ok, Err, sym, refl, ap, ◌∙◌, add-zero, add_assoc, arith, get_or-set_other, get_or-set_same, below_more}
use Rattle.refusal.specs.declared.Refusal.{Refusal}
use Rattle.mother.specs.Generators.{Generator, Next, Filled, Fills, limit}

module _ {S W : Type 0} (m : Generator S W) where
  pub filled_none : (s : S) (ws : List W) → m.sound s → Filled m s 0 s ws
  filled_none s ws h =
      record {
        sound = h;
        stays = record { start = refl; word = refl; given = refl; place = sym (add-zero (m.place s)) };
        reads = λ k d lt. absurd (omega arith);
      }

  pub filled_more : (s : S) (i : ℕ) (t u : S) (ws : List W) (w : W) → i < length ws → Filled m s i t ws → Next m t (Ok w) u
      → Filled m s (i + 1) u (set ws i w)
  filled_more s i t u ws w lt so_far next =
      let moved = next so_far.sound in
      let before = so_far.stays in
      let after = moved.3 in
      let w-is : w ≡ m.word s (m.place s + i) = moved.2 ∙ ap (λ g. g (m.place t)) before.word ∙ ap (m.word s) before.place in
      record {
        sound = moved.0;
        stays = record {
          start = after.start ∙ before.start;
          word = after.word ∙ before.word;
          given = after.given ∙ before.given;
          place = after.place ∙ ap (λ n. n + 1) before.place ∙ add_assoc (m.place s) i 1;
        };
        reads = λ k d below.
            below_more (λ j. get_or (set ws i w) j d ≡ m.word s (m.place s + j)) i
            (λ j h. get_or-set_other ws i j w d (λ e. omega arith) ∙ so_far.reads j d h)
            (get_or-set_same ws i w d lt ∙ w-is) k below;
      }

  -- within the limit next is not refused
  pub not_refused : (s : S) (i n : ℕ) (t u : S) (ws : List W) (e : Refusal) → i < n → m.place s + n ≤ limit → Filled m s i t ws → Next m t (Err e) u → ⊥
  not_refused s i n t u ws e lt low so_far next =
      let moved = next so_far.sound in
      omega (arith, moved.1, so_far.stays.place)

  -- as many words as the list has
  pub filled_all : (s : S) (i : ℕ) (t : S) (old ws : List W) → i ≡ length old → length ws ≡ length old → m.place s + length old ≤ limit
      → Filled m s i t ws → Fills m s old (Ok tt) t ws
  filled_all s i t old ws all same low so_far sound =
      let stays = so_far.stays in (
        so_far.sound,
        low,
        λ k d lt. so_far.reads k d (omega arith),
        record { start = stays.start; word = stays.word; given = stays.given; place = stays.place ∙ ap (λ n. m.place s + n) all },
      )
