-- What the ring holds, from place to place.
use Rattle.std.proofs.Common.{◌≡◌, ℕ, ◌+◌, ◌-◌, ◌<◌, ◌≤◌, List, length, set, ap, ◌∙◌, subst, arith}
use Rattle.row.specs.declared.Row.{Row}
use Rattle.handover.specs.Recursion.{x}
use Rattle.handover.specs.Rings.{wrap, kth, newer, onwards, backwards, Kept, HeldAt}
use Rattle.handover.proofs.Turns.{kept_onwards, kept_backwards, kept_more, kept_fewer}

kept_at : (w : ℕ → Row) (rows : List Row) (head f g n : ℕ) → f ≡ g → Kept w rows head f n → Kept w rows head g n
kept_at w rows head f g n e k = let P : ℕ → Type 0 = λ i. Kept w rows head i n in subst P e k

kept_count : (w : ℕ → Row) (rows : List Row) (head f n m : ℕ) → n ≡ m → Kept w rows head f n → Kept w rows head f m
kept_count w rows head f n m e k = let P : ℕ → Type 0 = λ i. Kept w rows head f i in subst P e k

module _ (w : ℕ → Row) (rows : List Row) (head : ℕ) (len : length rows ≡ 156) (h : head < 156) where
  pub held_more : (n : ℕ) (r : Row) → n < 155 → r ≡ x w n → HeldAt w rows head n → HeldAt w (set rows (wrap (head + n)) r) head (n + 1)
  held_more n r l e k =
      record {
        early = λ _. kept_more w rows head n r len h (omega arith) e (k.early (omega arith));
        late = λ q. absurd (omega arith);
      }

  -- all rows recorded, and then the row passed over
  pub held_last : (n : ℕ) → n ≡ 155 → Kept w rows head 0 (n + 1) → HeldAt w (onwards rows head) (wrap (head + 1)) (n + 1)
  held_last n l k =
      let on = (kept_onwards w rows head 0 len h (kept_count w rows head 0 (n + 1) 156 (omega arith) k)).1 in
      record { early = λ q. absurd (omega arith); late = λ _. kept_at w _ _ (0 + 1) (n + 1 - 155) 156 (omega arith) on }

  pub held_onwards : (n : ℕ) → 156 ≤ n → HeldAt w rows head n
      → (newer rows head ≡ x w (n + 1)) × HeldAt w (onwards rows head) (wrap (head + 1)) (n + 1)
  held_onwards n l k =
      let on = kept_onwards w rows head (n - 155) len h (k.late l) in (
        on.0 ∙ ap (x w) (omega arith),
        record { early = λ q. absurd (omega arith); late = λ _. kept_at w _ _ (n - 155 + 1) (n + 1 - 155) 156 (omega arith) on.1 },
      )

  back_one : (n : ℕ) → 156 ≤ n → HeldAt w rows head n → Kept w (backwards rows head) (wrap (head + 155)) (n - 156) 156
  back_one n l k =
      kept_backwards w rows head (n - 156) len h (kept_at w rows head (n - 155) (n - 156 + 1) 156 (omega arith) (k.late l))

  pub held_newest : (n : ℕ) → 156 ≤ n → HeldAt w rows head n → kth rows head 155 ≡ x w n
  unfolding Kept
  held_newest n l k = k.late l 155 (omega arith) ∙ ap (x w) (omega arith)

  pub held_backwards : (n : ℕ) → 156 < n → HeldAt w rows head n → HeldAt w (backwards rows head) (wrap (head + 155)) (n - 1)
  held_backwards n l k =
      record {
        early = λ q. absurd (omega arith);
        late = λ _. kept_at w _ _ (n - 156) (n - 1 - 155) 156 (omega arith) (back_one n (omega arith) k);
      }

  -- the row passed over is undone, and all 156 rows are there again
  pub held_seam : (n : ℕ) → n ≡ 155 → HeldAt w rows head (n + 1) → HeldAt w (backwards rows head) (wrap (head + 155)) n
  held_seam n l k =
      let b = kept_at w _ _ (n + 1 - 156) 0 156 (omega arith) (back_one (n + 1) (omega arith) k) in
      record {
        early = λ _. kept_fewer w _ _ 0 156 n (omega arith) b;
        late = λ q. absurd (omega arith);
      }

  pub held_fewer : (n : ℕ) → n < 155 → HeldAt w rows head (n + 1) → HeldAt w rows head n
  held_fewer n l k =
      record {
        early = λ _. kept_fewer w rows head 0 (n + 1) n (omega arith) (k.early (omega arith));
        late = λ q. absurd (omega arith);
      }

pub held_none : (w : ℕ → Row) (rows : List Row) (head : ℕ) → HeldAt w rows head 0
unfolding Kept
held_none w rows head = record { early = λ _ k l. absurd (omega arith); late = λ q. absurd (omega arith) }

pub held_same : (w : ℕ → Row) (rows rows' : List Row) (head head' n : ℕ) → rows' ≡ rows → head' ≡ head → HeldAt w rows head n → HeldAt w rows' head' n
held_same w rows rows' head head' n e f k = rw (e, f) k

pub kept_same : (w : ℕ → Row) (rows rows' : List Row) (head head' n : ℕ) → rows' ≡ rows → head' ≡ head
    → Kept w rows head 0 n → Kept w rows' head' 0 n
kept_same w rows rows' head head' n e f k = rw (e, f) k
