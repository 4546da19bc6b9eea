-- The register that a key and an IV give, and what it comes to by the idle steps.
use Rattle.std.proofs.Common.{◌≡◌, ℕ, zero, suc, ◌+◌, ◌-◌, ◌*◌, ◌<◌, ◌≤◌, ◌≢◌, List, length, get_or, set, replicate, sym, refl, ap, ◌∙◌, subst, inl, inr, add-one, arith, lit<, lit≤}
use mathlib.Core.Path.{fun_ext}
use Rattle.std.proofs.lemmas.Bool.{cond-true, cond-false, lt-ltb, le-ltb, cases_lt}
use Rattle.std.proofs.lemmas.List.{get_or-set_same, get_or-set_other, length-set, length-replicate, get_or-replicate}
use Rattle.row.specs.declared.Row.{Row}
use Rattle.row.specs.Lanes.{plus, ◌⊗◌}
use Rattle.row.specs.Rows.{Lanes, row, zeros, both, odd, ps1, ps2}
use Rattle.row.specs.Bytes.{row_at}
use Rattle.mother.specs.Generators.{Lawful}
use Rattle.booter.specs.declared.register.Register.{Register}
use Rattle.booter.specs.Registers.{State, state, wrap, kth, output, turned, fed, onward, ahead, x_from, a_from, o_from, InRange, Sound}
use Rattle.booter.specs.Loading.{count, height, once, twice, filled, constant, loaded}
use Rattle.booter.specs.Sequences.{x, a, o, words, SequencesStand}
use Rattle.booter.specs.Calls.{held, newest_of, Loaded, Idled, Sane, start_from, word_from}
use Rattle.row.proofs.RowLaws.{same_row}
use Rattle.row.proofs.Wraps.{wrap_low, wrap_high, wrap_below}
use Rattle.booter.proofs.Turns.{same_state}
use Rattle.booter.proofs.Rows.{kth_ahead, first_rows, first_turn_at, later_turns_at, later_rows_at, outputs, ahead_more, sound_idle}

-- zeros, and a row of four zeros
pub is_zeros : (r : Row) → (r.l0 ≡ 0) × ((r.l1 ≡ 0) × ((r.l2 ≡ 0) × (r.l3 ≡ 0))) → r ≡ zeros
is_zeros r e = same_row e.1.1.1 e.1.1.0 e.1.0 e.0

lanes_zeros : Lanes zeros
lanes_zeros = record { l3 = lit< tt; l2 = lit< tt; l1 = lit< tt; l0 = lit< tt }

pub sound_zeros : Sound 4 (state (replicate 64 zeros) 0 zeros)
sound_zeros =
    record {
      range = record { head = lit< tt; least = lit≤ tt; full = lit≤ tt };
      rows = λ k l.
          let b : wrap 4 (0 + k) < 4 = wrap_below 4 (0 + k) (omega arith) in
          subst Lanes (sym (get_or-replicate 64 (wrap 4 (0 + k)) zeros zeros (omega arith))) lanes_zeros;
      accumulator = lanes_zeros;
    }

pub sound_new : (r : Row) → r ≡ zeros → Sound 4 (state (replicate 64 r) 0 r)
sound_new r e = subst (λ z. Sound 4 (state (replicate 64 z) 0 z)) (sym e) sound_zeros

-- the first n rows
pub filled_length : (f : ℕ → Row) (n : ℕ) → length (filled f n) ≡ 64
filled_length f zero = length-replicate 64 zeros
filled_length f (suc n) = length-set (filled f n) n (f n) ∙ filled_length f n

filled_at : (f : ℕ → Row) (n k : ℕ) → n ≤ 64 → k < n → get_or (filled f n) k zeros ≡ f k
filled_at f zero k h l = absurd (omega arith)
filled_at f (suc n) k h l = elim (cases_lt k n) [
  | inl s ↦
      let ne : k ≢ n = omega arith in
      get_or-set_other (filled f n) n k (f n) zeros ne ∙ filled_at f n k (omega arith) s
  | inr s ↦
      let e : k ≡ n = omega arith in
      let b : n < length (filled f n) = omega (arith, filled_length f n) in
      ap (λ i. get_or (set (filled f n) n (f n)) i zeros) e ∙ get_or-set_same (filled f n) n (f n) zeros b ∙ ap f (sym e)
]

pub filled_more : (f : ℕ → Row) (n : ℕ) (rows : List Row) (r : Row) → rows ≡ filled f n → r ≡ f n → set rows n r ≡ filled f (n + 1)
filled_more f n rows r e q = ap (λ l. set l n r) e ∙ ap (set (filled f n) n) q ∙ ap (filled f) (sym (add-one n))

-- rows of the IV and of the key
pub twice_iv : (key iv : List ℕ) (i j : ℕ) → j ≡ wrap (count iv + count key) i → j < count iv → (r : Row) → r ≡ row_at iv (16 * j) → r ≡ twice key iv i
unfolding twice once
twice_iv key iv i j e l r q = q ∙ sym (cond-true _ _ _ (lt-ltb j (count iv) l)) ∙ ap (once key iv) e

pub twice_key : (key iv : List ℕ) (i j : ℕ) → j ≡ wrap (count iv + count key) i → count iv ≤ j → (r : Row) → r ≡ row_at key (16 * (j - count iv)) → r ≡ twice key iv i
unfolding twice once
twice_key key iv i j e l r q = q ∙ sym (cond-false _ _ _ (le-ltb j (count iv) l)) ∙ ap (once key iv) e

module _ (key iv : List ℕ) (lk : Lawful key) (lv : Lawful iv) where
  some_key : 1 ≤ count key
  some_key = omega (arith, lk.0)

  some_iv : 1 ≤ count iv
  some_iv = omega (arith, lv.0)

  few_key : count key ≤ 16
  few_key = omega (arith, lk.1)

  few_iv : count iv ≤ 16
  few_iv = omega (arith, lv.1)

  plain : (k : ℕ) → k + 1 < height key iv → get_or (loaded key iv).rows k zeros ≡ twice key iv k
  unfolding loaded
  plain k l =
      let ne : k ≢ height key iv - 1 = omega arith in
      get_or-set_other (filled (twice key iv) (height key iv)) (height key iv - 1) k _ zeros ne
      ∙ filled_at (twice key iv) (height key iv) k (omega (arith, few_key, few_iv)) (omega arith)

  last : get_or (loaded key iv).rows (height key iv - 1) zeros ≡ both plus (twice key iv (height key iv - 1)) constant
  unfolding loaded
  last =
      let b : height key iv - 1 < height key iv = omega (arith, some_key) in
      let in_range : height key iv - 1 < length (filled (twice key iv) (height key iv)) =
      omega (arith, filled_length (twice key iv) (height key iv), few_key, few_iv, some_key) in
      get_or-set_same (filled (twice key iv) (height key iv)) (height key iv - 1) _ zeros in_range
      ∙ ap (λ t. both plus t constant) (filled_at (twice key iv) (height key iv) (height key iv - 1) (omega (arith, few_key, few_iv)) b)

  -- the key's first row stands after the IV
  pub first_key : get_or (loaded key iv).rows (count iv) zeros ≡ row_at key 0
  first_key =
      let n = count iv in
      let e : 16 * (n - n) ≡ 0 = omega arith in
      plain n (omega (arith, some_key, some_iv))
      ∙ sym (twice_key key iv n n (sym (wrap_low (n + count key) n (omega (arith, some_key)))) (omega arith) (row_at key 0) (ap (row_at key) (sym e)))

  pub range_loaded : InRange (height key iv) (loaded key iv)
  unfolding loaded
  range_loaded =
      record {
        head = omega (arith, some_key);
        least = omega (arith, some_key, some_iv);
        full = simp length-set (omega (arith, filled_length (twice key iv) (height key iv), few_key, few_iv));
      }

  x_is : (k : ℕ) → k < height key iv → x key iv k ≡ get_or (loaded key iv).rows k zeros
  unfolding loaded
  x_is k l =
      let z : 0 + k ≡ k = omega arith in
      first_rows (height key iv) (loaded key iv) range_loaded k l
      ∙ ap (λ i. get_or (loaded key iv).rows i zeros) (ap (wrap (height key iv)) z ∙ wrap_low (height key iv) k l)

  -- the register by its parts
  pub load_done : (r : Register) → Loaded key iv r → held r ≡ loaded key iv
  unfolding loaded
  load_done r l = same_state l.rows l.head l.accumulator

  pub sizes : (4 ≤ height key iv) × (height key iv ≤ 64)
  sizes = (omega (arith, some_key, some_iv), omega (arith, few_key, few_iv))

  -- IV, key, IV, key
  loaded_iv : (i : ℕ) → i < count iv → x key iv i ≡ row_at iv (16 * i)
  loaded_iv i l =
      x_is i (omega (arith, some_key)) ∙ plain i (omega (arith, some_key))
      ∙ sym (twice_iv key iv i i (sym (wrap_low (count iv + count key) i (omega arith))) l (row_at iv (16 * i)) refl)

  loaded_key : (i : ℕ) → i < count key → x key iv (count iv + i) ≡ row_at key (16 * i)
  loaded_key i l =
      let n = count iv in
      let e : i ≡ n + i - n = omega arith in
      x_is (n + i) (omega (arith, some_iv)) ∙ plain (n + i) (omega (arith, some_iv))
      ∙ sym (twice_key key iv (n + i) (n + i) (sym (wrap_low (n + count key) (n + i) (omega arith))) (omega arith) (row_at key (16 * i)) (ap (λ z. row_at key (16 * z)) e))

  -- an index of the second half, and where it wraps to
  second : (i : ℕ) → i ≡ wrap (count iv + count key) (count iv + count key + i)
  second i = sym (wrap_high (count iv + count key) (count iv + count key + i) (omega arith) ∙ omega arith)

  loaded_iv_again : (i : ℕ) → i < count iv → x key iv (count iv + count key + i) ≡ row_at iv (16 * i)
  loaded_iv_again i l =
      let m = count iv + count key in
      x_is (m + i) (omega (arith, some_key)) ∙ plain (m + i) (omega (arith, some_key))
      ∙ sym (twice_iv key iv (m + i) i (second i) l (row_at iv (16 * i)) refl)

  twice_key_again : (j i : ℕ) → j ≡ count iv + count key + count iv + i → row_at key (16 * i) ≡ twice key iv j
  twice_key_again j i q =
      let m = count iv + count key in
      let n = count iv in
      let e : i ≡ n + i - n = omega arith in
      let f : m + (n + i) ≡ j = omega arith in
      twice_key key iv j (n + i) (second (n + i) ∙ ap (wrap m) f) (omega arith) (row_at key (16 * i)) (ap (λ z. row_at key (16 * z)) e)

  loaded_key_again : (i : ℕ) → i + 1 < count key → x key iv (count iv + count key + count iv + i) ≡ row_at key (16 * i)
  loaded_key_again i l =
      let j = count iv + count key + count iv + i in
      x_is j (omega arith) ∙ plain j (omega arith) ∙ sym (twice_key_again j i refl)

  loaded_last : x key iv (height key iv - 1) ≡ both plus (row_at key (16 * (count key - 1))) constant
  loaded_last =
      x_is (height key iv - 1) (omega (arith, some_key)) ∙ last
      ∙ ap (λ t. both plus t constant) (sym (twice_key_again (height key iv - 1) (count key - 1) (omega (arith, some_key))))

  -- after the idle steps
  idle_start : kth (height key iv) (ahead (height key iv) (height key iv + 2) (loaded key iv)) (height key iv - 1) ≡ (words key iv).start
  idle_start =
      let s = height key iv in
      let b = range_loaded.least in
      let e : s + 2 + (s - 1) ≡ 2 * s + 1 = omega arith in
      kth_ahead s (loaded key iv) range_loaded (s + 2) (s - 1) (omega arith) ∙ ap (x key iv) e

  idle_word : (i : ℕ) → o_from (height key iv) (ahead (height key iv) (height key iv + 2) (loaded key iv)) i ≡ (words key iv).word i
  unfolding o_from
  idle_word i = ap (output (height key iv)) (ahead_more (height key iv) i (height key iv + 2) (loaded key iv))

  -- r at place n stands at the front of the words
  abbrev AtFront : Register → ℕ → Type 0
  AtFront r n =
      Sane r × (newest_of r ≡ start_from r n) × (start_from r n ≡ (words key iv).start)
      × (word_from r n ≡ (words key iv).word)

  idled : (r r' : Register) → Loaded key iv r → Idled r r' → AtFront r' 0
  unfolding Sane start_from word_from
  idled r r' l i =
      let h = height key iv in
      let D : State = ahead h (h + 2) (loaded key iv) in
      let here : held r' ≡ D = i.moved ∙ ap (λ z. ahead z (z + 2) (held r)) l.height ∙ ap (ahead h (h + 2)) (load_done r l) in
      let P : ℕ → State → Type 0 =
      λ z e. Sound z e × (kth z e (z - 1) ≡ (words key iv).start) × ((λ i. o_from z e i) ≡ (words key iv).word) in
      let all : P h D = (sound_idle h (loaded key iv) range_loaded (h + 2) (omega arith), idle_start, fun_ext idle_word) in
      let at_front = subst (λ (z : ℕ). P z (held r')) (sym (i.height ∙ l.height)) (subst (P h) (sym here) all) in
      (at_front.0, refl, at_front.1, at_front.2)

  pub set_up_done : (r r' : Register) (n : ℕ) → Loaded key iv r → Idled r r' → n ≡ 0 → AtFront r' n
  set_up_done r r' n l i z = subst (AtFront r') (sym z) (idled r r' l i)

  accumulator_loaded : (loaded key iv).accumulator ≡ odd (row_at key 0)
  unfolding loaded
  accumulator_loaded = ap odd first_key

  accumulator_first : a key iv 0 ≡ both ◌⊗◌ (odd (row_at key 0)) (ps2 (x key iv (height key iv - 1)))
  accumulator_first =
      first_turn_at (height key iv) (loaded key iv) range_loaded
      ∙ ap (λ t. both ◌⊗◌ t (ps2 (x key iv (height key iv - 1)))) accumulator_loaded

pub sequences_stand : SequencesStand
sequences_stand key iv lk lv =
    let ok = range_loaded key iv lk lv in
    record {
      height = refl;
      iv_first = loaded_iv key iv lk lv;
      key_first = loaded_key key iv lk lv;
      iv_second = loaded_iv_again key iv lk lv;
      key_second = loaded_key_again key iv lk lv;
      last_row = loaded_last key iv lk lv;
      accumulator_first = accumulator_first key iv lk lv;
      accumulator = later_turns_at (height key iv) (loaded key iv) ok;
      fed_back = later_rows_at (height key iv) (loaded key iv) ok;
      output = outputs (height key iv) (loaded key iv) ok;
      start = refl;
      word = λ i. refl;
    }

-- step 0 at an IV and a key of one zero row each
abbrev zero_row : List ℕ
zero_row = replicate 16 0

abbrev pub WorkedStep : Type 0
WorkedStep = (height zero_row zero_row ≡ 4)
    × (a zero_row zero_row 0 ≡ row 796474 942292 2938351 2538340)
    × (x zero_row zero_row 4 ≡ row 4294170822 4294025004 4292028945 4292428956)
    × (o zero_row zero_row 0 ≡ zeros)

pub worked_step : WorkedStep
unfolding a_from x_from o_from onward turned fed output loaded twice once row_at wrap ps1 ps2 ◌⊗◌
worked_step = (refl, refl, refl, refl)
