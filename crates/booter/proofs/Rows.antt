-- The equations of the sequences, and steps on after steps back.
use Rattle.std.proofs.Common.{◌≡◌, ℕ, zero, suc, ◌+◌, ◌-◌, ◌<◌, ◌≤◌, sym, refl, ap, ◌∙◌, subst, add-zero, add-suc, add-one, arith}
use Rattle.row.specs.Lanes.{plus, minus, ◌⊗◌}
use Rattle.row.specs.Rows.{Lanes, both, ps1, ps2}
use Rattle.booter.specs.Registers.{State, kth, output, turned, fed, onward, output_before, backward, InRange, Sound, ahead, behind, x_from, a_from, o_from}
use Rattle.booter.proofs.Turns.{range_onward, kth_onward, last_onward, sound_backward, lanes_fed, lanes_turned, step_there_and_back, step_back_and_there}

pub range_ahead : (s : ℕ) (c : State) → InRange s c → (n : ℕ) → InRange s (ahead s n c)
range_ahead s c k zero = k
range_ahead s c k (suc n) = range_onward s (ahead s n c) (range_ahead s c k n)

pub sound_behind : (s n : ℕ) (c : State) → Sound s c → Sound s (behind s n c)
sound_behind s zero c g = g
sound_behind s (suc n) c g = sound_behind s n (backward s c) (sound_backward s c g)

pub ahead_more : (s i j : ℕ) (c : State) → ahead s i (ahead s j c) ≡ ahead s (j + i) c
ahead_more s zero j c = ap (λ n. ahead s n c) (sym (add-zero j))
ahead_more s (suc i) j c = ap (onward s) (ahead_more s i j c) ∙ ap (λ n. ahead s n c) (sym (add-suc j i))

onward_acc : (s : ℕ) (c : State) → (onward s c).accumulator ≡ turned s c
unfolding onward
onward_acc s c = refl

module _ (s : ℕ) (c : State) (k0 : InRange s c) where
  -- the k-th of the register before step j is x_(j+k)
  pub kth_ahead : (j k : ℕ) → k < s → kth s (ahead s j c) k ≡ x_from s c (j + k)
  unfolding x_from
  kth_ahead j zero h = ap (λ n. kth s (ahead s n c) 0) (sym (add-zero j))
  kth_ahead j (suc k) h =
      ap (kth s (ahead s j c)) (sym (add-one k))
      ∙ sym (kth_onward s (ahead s j c) (range_ahead s c k0 j) k (omega arith))
      ∙ kth_ahead (suc j) k (omega arith)
      ∙ ap (λ n. kth s (ahead s n c) 0) (omega arith)

  turned_is : (j : ℕ) → a_from s c j ≡ turned s (ahead s j c)
  unfolding a_from onward
  turned_is j = refl

  pub outputs_at : (j : ℕ) → output s (ahead s j c) ≡ both plus (x_from s c j) (x_from s c (s + j - 2))
  unfolding output
  outputs_at j =
      let l = k0.least in
      let e : j + (s - 2) ≡ s + j - 2 = omega arith in
      ap (λ t. both plus t (kth s (ahead s j c) (s - 2))) (kth_ahead j 0 (omega arith) ∙ ap (x_from s c) (add-zero j))
      ∙ ap (both plus (x_from s c j)) (kth_ahead j (s - 2) (omega arith) ∙ ap (x_from s c) e)

  pub later_rows_at : (j : ℕ) → x_from s c (s + j) ≡ both minus (ps1 (both plus (x_from s c j) (x_from s c (s + j - 2)))) (a_from s c j)
  unfolding fed
  later_rows_at j =
      let l = k0.least in
      let e : s + j ≡ suc j + (s - 1) = omega arith in
      ap (x_from s c) e
      ∙ sym (kth_ahead (suc j) (s - 1) (omega arith))
      ∙ last_onward s (ahead s j c) (range_ahead s c k0 j)
      ∙ ap (λ t. both minus (ps1 t) (turned s (ahead s j c))) (outputs_at j)
      ∙ ap (both minus (ps1 (both plus (x_from s c j) (x_from s c (s + j - 2))))) (sym (turned_is j))

  pub first_turn_at : a_from s c 0 ≡ both ◌⊗◌ c.accumulator (ps2 (x_from s c (s - 1)))
  unfolding turned
  first_turn_at =
      let l = k0.least in
      let e : 0 + (s - 1) ≡ s - 1 = omega arith in
      turned_is 0 ∙ ap (λ t. both ◌⊗◌ c.accumulator (ps2 t)) (kth_ahead 0 (s - 1) (omega arith) ∙ ap (x_from s c) e)

  next_turn_at : (j : ℕ) → a_from s c (suc j) ≡ both ◌⊗◌ (a_from s c j) (ps2 (x_from s c (suc j + (s - 1))))
  unfolding turned a_from
  next_turn_at j =
      let l = k0.least in
      turned_is (suc j) ∙ ap (λ t. both ◌⊗◌ (ahead s (suc j) c).accumulator (ps2 t)) (kth_ahead (suc j) (s - 1) (omega arith))

  pub later_turns_at : (j : ℕ) → a_from s c (j + 1) ≡ both ◌⊗◌ (a_from s c j) (ps2 (x_from s c (s + j)))
  later_turns_at j =
      let l = k0.least in
      let e : suc j + (s - 1) ≡ s + j = omega arith in
      ap (a_from s c) (add-one j) ∙ next_turn_at j ∙ ap (λ n. both ◌⊗◌ (a_from s c j) (ps2 (x_from s c n))) e

  -- from step H on all rows are rows fed back
  pub sound_idle : (n : ℕ) → s ≤ n → Sound s (ahead s n c)
  sound_idle n h =
      record {
        range = range_ahead s c k0 n;
        rows = λ k l.
            let e : n + k ≡ suc (n + k - s) + (s - 1) = omega arith in
            subst Lanes
            (sym (kth_ahead n k l ∙ ap (x_from s c) e ∙ sym (kth_ahead (suc (n + k - s)) (s - 1) (omega arith)) ∙ last_onward s (ahead s (n + k - s) c) (range_ahead s c k0 (n + k - s))))
            (lanes_fed s (ahead s (n + k - s) c));
        accumulator =
            let b = k0.least in
            let e : n ≡ suc (n - 1) = omega arith in
            subst Lanes (sym (ap (λ m. (ahead s m c).accumulator) e ∙ onward_acc s (ahead s (n - 1) c))) (lanes_turned s (ahead s (n - 1) c));
      }

pub first_rows : (s : ℕ) (c : State) → InRange s c → (i : ℕ) → i < s → x_from s c i ≡ kth s c i
first_rows s c k i h = let e : 0 + i ≡ i = omega arith in sym (kth_ahead s c k 0 i h ∙ ap (x_from s c) e)

pub outputs : (s : ℕ) (c : State) → InRange s c → (j : ℕ) → o_from s c j ≡ both plus (x_from s c j) (x_from s c (s + j - 2))
unfolding o_from
outputs s c k = outputs_at s c k

-- n steps on undo n steps back
pub ahead_behind : (s n : ℕ) (c : State) → Sound s c → ahead s n (behind s n c) ≡ c
ahead_behind s zero c g = refl
ahead_behind s (suc n) c g =
    ap (onward s) (ahead_behind s n (backward s c) (sound_backward s c g)) ∙ (step_back_and_there s c g).0

-- the front of the words is the same after a step on and after a step back
pub behind_onward : (s n : ℕ) (c : State) → Sound s c → behind s (n + 1) (onward s c) ≡ behind s n c
behind_onward s n c g = ap (λ m. behind s m (onward s c)) (add-one n) ∙ ap (behind s n) (step_there_and_back s c g).0

pub behind_backward : (s n : ℕ) (c : State) → 0 < n → behind s (n - 1) (backward s c) ≡ behind s n c
behind_backward s n c p = let e : suc (n - 1) ≡ n = omega arith in ap (λ m. behind s m c) e

-- the word at the place, and the word before it
pub word_here : (s n : ℕ) (c : State) → Sound s c → output s c ≡ o_from s (behind s n c) n
unfolding o_from
word_here s n c g = ap (output s) (sym (ahead_behind s n c g))

pub word_before : (s n : ℕ) (c : State) → Sound s c → 0 < n → output_before s c ≡ o_from s (behind s n c) (n - 1)
unfolding o_from
word_before s n c g p =
    sym (step_back_and_there s c g).1
    ∙ ap (output s) (sym (ahead_behind s (n - 1) (backward s c) (sound_backward s c g)) ∙ ap (ahead s (n - 1)) (behind_backward s n c p))

-- one step more
pub ahead_one : (s t n : ℕ) (c d e : State) → t ≡ s → d ≡ ahead s n c → e ≡ onward t d → e ≡ ahead s (n + 1) c
ahead_one s t n c d e p q r =
    r ∙ ap (λ z. onward z d) p ∙ ap (onward s) q ∙ ap (λ m. ahead s m c) (sym (add-one n))
