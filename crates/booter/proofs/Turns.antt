-- What a step of the register does.
use Rattle.std.proofs.Common.{◌≡◌, ℕ, ◌+◌, ◌-◌, ◌<◌, ◌≢◌, List, length, get_or, set, sym, ap, ◌∙◌, subst, inl, inr, arith}
use Rattle.std.proofs.lemmas.Bool.{cases_lt}
use Rattle.std.proofs.lemmas.List.{get_or-set_same, get_or-set_other, set-set, set-get_or, length-set}
use Rattle.row.specs.declared.Row.{Row}
use Rattle.row.specs.Lanes.{plus, minus, ◌⊗◌, ◌⊘◌}
use Rattle.row.specs.Rows.{Lanes, zeros, both, ps1, ps2}
use Rattle.row.specs.Undone.{unps1}
use Rattle.row.proofs.LaneLaws.{quotient_undoes, quotient_is}
use Rattle.row.proofs.RowLaws.{ps1_undone, ps1_onto}
use Rattle.row.proofs.Wraps.{wrap_below, wrap_zero, wrap_more, wrap_first, wrap_less, wrap_last, wrap_apart}
use Rattle.row.proofs.RowFits.{lanes_both, oprod_lt, oquot_lt, plus_lt, minus_lt, lanes_ps1, lanes_ps2, lanes_unps1, minus_plus, plus_minus, both_undone}
use Rattle.booter.specs.Registers.{State, state, wrap, kth, output, turned, fed, onward, output_before, oldest_before, turned_before, backward, InRange, Sound, StepThereAndBack, StepBackAndThere}

pub same_state : {r r' : List Row} {h h' : ℕ} {a a' : Row} → r ≡ r' → h ≡ h' → a ≡ a' → state r h a ≡ state r' h' a'
same_state p q r = cc

module _ (s : ℕ) (c : State) (k0 : InRange s c) where
  pub range_onward : InRange s (onward s c)
  unfolding onward
  range_onward =
      record {
        head = wrap_below s (c.head + 1) (omega (arith, k0.head, k0.least));
        least = k0.least;
        full = simp length-set k0.full;
      }

  pub kth_onward : (k : ℕ) → k + 1 < s → kth s (onward s c) k ≡ kth s c (k + 1)
  unfolding onward
  kth_onward k l =
      let z = wrap_zero s c.head k0.head in
      let far : wrap s (c.head + (k + 1)) ≢ c.head = λ q. wrap_apart s c.head 0 (k + 1) k0.head (omega arith) l (z ∙ sym q) in
      ap (λ i. get_or (onward s c).rows i zeros) (wrap_more s c.head k k0.head l)
      ∙ get_or-set_other c.rows c.head (wrap s (c.head + (k + 1))) (fed s c) zeros far

  pub last_onward : kth s (onward s c) (s - 1) ≡ fed s c
  unfolding onward
  last_onward =
      let l : c.head < length c.rows = omega (arith, k0.head, k0.full) in
      ap (λ i. get_or (onward s c).rows i zeros) (wrap_first s c.head k0.head)
      ∙ get_or-set_same c.rows c.head (fed s c) zeros l

  back_index : wrap s (c.head + (s - 1)) < s
  back_index = wrap_below s (c.head + (s - 1)) (omega (arith, k0.head, k0.least))

  pub range_backward : InRange s (backward s c)
  unfolding backward
  range_backward = record { head = back_index; least = k0.least; full = simp length-set k0.full }

  pub kth_backward : (k : ℕ) → k + 1 < s → kth s (backward s c) (k + 1) ≡ kth s c k
  unfolding backward
  kth_backward k l =
      ap (λ i. get_or (backward s c).rows i zeros) (wrap_less s c.head k k0.head l)
      ∙ get_or-set_other c.rows (wrap s (c.head + (s - 1))) (wrap s (c.head + k)) (oldest_before s c) zeros
      (wrap_apart s c.head k (s - 1) k0.head (omega arith) (omega (arith, k0.least)))

  pub first_backward : kth s (backward s c) 0 ≡ oldest_before s c
  unfolding backward
  first_backward =
      let l : wrap s (c.head + (s - 1)) < length c.rows = omega (arith, back_index, k0.full) in
      ap (λ i. get_or (backward s c).rows i zeros) (wrap_zero s (wrap s (c.head + (s - 1))) back_index)
      ∙ get_or-set_same c.rows (wrap s (c.head + (s - 1))) (oldest_before s c) zeros l

-- the lanes of what a step makes
lanes_output : (s : ℕ) (c : State) → Lanes (output s c)
unfolding output
lanes_output s c = lanes_both plus plus_lt _ _

pub lanes_turned : (s : ℕ) (c : State) → Lanes (turned s c)
unfolding turned
lanes_turned s c = lanes_both ◌⊗◌ oprod_lt _ _

pub lanes_fed : (s : ℕ) (c : State) → Lanes (fed s c)
unfolding fed
lanes_fed s c = lanes_both minus minus_lt _ _

lanes_oldest_before : (s : ℕ) (c : State) → Lanes (oldest_before s c)
unfolding oldest_before
lanes_oldest_before s c = lanes_both minus minus_lt _ _

lanes_turned_before : (s : ℕ) (c : State) → Lanes (turned_before s c)
unfolding turned_before
lanes_turned_before s c = lanes_both ◌⊘◌ oquot_lt _ _

-- a step back after a step on
module _ (s : ℕ) (c : State) (g : Sound s c) where
  output_before_onward : output_before s (onward s c) ≡ output s c
  unfolding output_before onward fed
  output_before_onward =
      ap (λ t. unps1 (both plus t (turned s c))) (last_onward s c g.range)
      ∙ ap unps1 (both_undone minus plus plus_minus (ps1 (output s c)) (turned s c) (lanes_ps1 _ (lanes_output s c)) (lanes_turned s c))
      ∙ ps1_undone (output s c) (lanes_output s c)

  oldest_before_onward : oldest_before s (onward s c) ≡ kth s c 0
  unfolding oldest_before output
  oldest_before_onward =
      let e : s - 3 + 1 ≡ s - 2 = omega (arith, g.range.least) in
      ap (λ t. both minus t (kth s (onward s c) (s - 3))) output_before_onward
      ∙ ap (both minus (output s c)) (kth_onward s c g.range (s - 3) (omega (arith, g.range.least)) ∙ ap (kth s c) e)
      ∙ both_undone plus minus minus_plus (kth s c 0) (kth s c (s - 2)) (g.rows 0 (omega (arith, g.range.least))) (g.rows (s - 2) (omega (arith, g.range.least)))

  turned_before_onward : turned_before s (onward s c) ≡ c.accumulator
  unfolding turned_before onward turned
  turned_before_onward =
      let e : s - 2 + 1 ≡ s - 1 = omega (arith, g.range.least) in
      ap (λ t. both ◌⊘◌ (turned s c) (ps2 t)) (kth_onward s c g.range (s - 2) (omega (arith, g.range.least)) ∙ ap (kth s c) e)
      ∙ both_undone ◌⊗◌ ◌⊘◌ quotient_undoes c.accumulator (ps2 (kth s c (s - 1))) g.accumulator (lanes_ps2 _ (g.rows (s - 1) (omega (arith, g.range.least))))

  head_back : wrap s ((onward s c).head + (s - 1)) ≡ c.head
  unfolding onward
  head_back = wrap_first s c.head g.range.head

  rows_back : set (onward s c).rows c.head (kth s c 0) ≡ c.rows
  unfolding onward
  rows_back =
      set-set c.rows c.head (fed s c) (kth s c 0)
      ∙ ap (λ i. set c.rows c.head (get_or c.rows i zeros)) (wrap_zero s c.head g.range.head)
      ∙ set-get_or c.rows c.head zeros

  backward_onward : backward s (onward s c) ≡ c
  unfolding backward
  backward_onward =
      let d = onward s c in
      let e : wrap s (d.head + (s - 1)) ≡ c.head = head_back in
      same_state
      (ap (λ i. set d.rows i (oldest_before s d)) e ∙ ap (set d.rows c.head) oldest_before_onward ∙ rows_back)
      e turned_before_onward

  acc_on : Lanes (onward s c).accumulator
  unfolding onward
  acc_on = lanes_turned s c

  pub sound_onward : Sound s (onward s c)
  sound_onward =
      record {
        range = range_onward s c g.range;
        rows = λ k l. elim (cases_lt (k + 1) s) [
          | inl h ↦ subst Lanes (sym (kth_onward s c g.range k h)) (g.rows (k + 1) h)
          | inr h ↦
              let e : k ≡ s - 1 = omega arith in
              subst Lanes (sym (ap (kth s (onward s c)) e ∙ last_onward s c g.range)) (lanes_fed s c)
        ];
        accumulator = acc_on;
      }

-- a step on after a step back
module _ (s : ℕ) (c : State) (g : Sound s c) where
  lanes_output_before : Lanes (output_before s c)
  unfolding output_before
  lanes_output_before = lanes_unps1 _ (lanes_both plus plus_lt _ _)

  output_backward : output s (backward s c) ≡ output_before s c
  unfolding output oldest_before
  output_backward =
      let e : s - 3 + 1 ≡ s - 2 = omega (arith, g.range.least) in
      ap (λ t. both plus t (kth s (backward s c) (s - 2))) (first_backward s c g.range)
      ∙ ap (both plus (oldest_before s c)) (ap (kth s (backward s c)) (sym e) ∙ kth_backward s c g.range (s - 3) (omega (arith, g.range.least)))
      ∙ both_undone minus plus plus_minus (output_before s c) (kth s c (s - 3)) lanes_output_before (g.rows (s - 3) (omega (arith, g.range.least)))

  turned_backward : turned s (backward s c) ≡ c.accumulator
  unfolding turned backward turned_before
  turned_backward =
      let e : s - 2 + 1 ≡ s - 1 = omega (arith, g.range.least) in
      ap (λ t. both ◌⊗◌ (turned_before s c) (ps2 t)) (ap (kth s (backward s c)) (sym e) ∙ kth_backward s c g.range (s - 2) (omega (arith, g.range.least)))
      ∙ both_undone ◌⊘◌ ◌⊗◌ quotient_is c.accumulator (ps2 (kth s c (s - 2))) g.accumulator (lanes_ps2 _ (g.rows (s - 2) (omega (arith, g.range.least))))

  fed_backward : fed s (backward s c) ≡ kth s c (s - 1)
  unfolding fed output_before
  fed_backward =
      ap (λ t. both minus (ps1 t) (turned s (backward s c))) output_backward
      ∙ ap (both minus (ps1 (output_before s c))) turned_backward
      ∙ ap (λ t. both minus t c.accumulator) (ps1_onto (both plus (kth s c (s - 1)) c.accumulator) (lanes_both plus plus_lt _ _))
      ∙ both_undone plus minus minus_plus (kth s c (s - 1)) c.accumulator (g.rows (s - 1) (omega (arith, g.range.least))) g.accumulator

  head_on : wrap s ((backward s c).head + 1) ≡ c.head
  unfolding backward
  head_on = wrap_last s c.head g.range.head

  rows_on : set (backward s c).rows (backward s c).head (kth s c (s - 1)) ≡ c.rows
  unfolding backward
  rows_on =
      set-set c.rows (wrap s (c.head + (s - 1))) (oldest_before s c) (kth s c (s - 1))
      ∙ set-get_or c.rows (wrap s (c.head + (s - 1))) zeros

  onward_backward : onward s (backward s c) ≡ c
  unfolding onward
  onward_backward = same_state (ap (set (backward s c).rows (backward s c).head) fed_backward ∙ rows_on) head_on turned_backward

  acc_back : Lanes (backward s c).accumulator
  unfolding backward
  acc_back = lanes_turned_before s c

  pub sound_backward : Sound s (backward s c)
  sound_backward =
      record {
        range = range_backward s c g.range;
        rows = λ k l. elim (cases_lt 0 k) [
          | inl h ↦
              let e : k ≡ k - 1 + 1 = omega arith in
              subst Lanes (sym (ap (kth s (backward s c)) e ∙ kth_backward s c g.range (k - 1) (omega arith))) (g.rows (k - 1) (omega arith))
          | inr h ↦
              let e : k ≡ 0 = omega arith in
              subst Lanes (sym (ap (kth s (backward s c)) e ∙ first_backward s c g.range)) (lanes_oldest_before s c)
        ];
        accumulator = acc_back;
      }

pub step_there_and_back : StepThereAndBack
step_there_and_back s c g = (backward_onward s c g, output_before_onward s c g, last_onward s c g.range)

pub step_back_and_there : StepBackAndThere
step_back_and_there s c g = (onward_backward s c g, output_backward s c g, fed_backward s c g)
