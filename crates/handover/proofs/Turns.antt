-- What a turn of the ring does.
use Rattle.std.proofs.Common.{◌≡◌, ℕ, ◌+◌, ◌-◌, ◌<◌, ◌≤◌, ◌≢◌, List, length, get_or, set, sym, ap, ◌∙◌, inl, inr, arith}
use Rattle.std.proofs.lemmas.Bool.{cases_lt}
use Rattle.std.proofs.lemmas.List.{get_or-set_same, get_or-set_other, set-set, set-get_or}
use Rattle.row.specs.declared.Row.{Row}
use Rattle.row.specs.Rows.{zeros, step_row}
use Rattle.row.specs.Undone.{unstep_row}
use Rattle.row.proofs.StepLaws.{step_undone, undone_stepped}
use Rattle.row.proofs.Wraps.{wrap_below, wrap_zero, wrap_more, wrap_first, wrap_less, wrap_last, wrap_apart}
use Rattle.handover.specs.Recursion.{mask, x}
use Rattle.handover.specs.Rings.{wrap, kth, newer, older, onwards, backwards, StepThereAndBack, StepBackAndThere, Kept}
use Rattle.handover.proofs.Rows.{recursion}

-- a ring turned on by one
module _ (rows : List Row) (head : ℕ) (len : length rows ≡ 156) (h : head < 156) where
  pub kth_onwards : (k : ℕ) → k < 155 → kth (onwards rows head) (wrap (head + 1)) k ≡ kth rows head (k + 1)
  kth_onwards k l =
      let e = wrap_more 156 head k h (omega arith) in
      let ne : wrap (head + (k + 1)) ≢ wrap (head + 0) = λ q. wrap_apart 156 head 0 (k + 1) h (omega arith) (omega arith) (sym q) in
      ap (λ i. get_or (onwards rows head) i zeros) e
      ∙ get_or-set_other rows (wrap (head + 0)) (wrap (head + (k + 1))) (newer rows head) zeros ne

  pub last_onwards : kth (onwards rows head) (wrap (head + 1)) 155 ≡ newer rows head
  last_onwards =
      let e : wrap (wrap (head + 1) + 155) ≡ wrap (head + 0) = wrap_first 156 head h ∙ sym (wrap_zero 156 head h) in
      let l : wrap (head + 0) < length rows = omega (arith, wrap_below 156 (head + 0) (omega arith)) in
      ap (λ i. get_or (onwards rows head) i zeros) e ∙ get_or-set_same rows (wrap (head + 0)) (newer rows head) zeros l

  -- and back by one
  pub kth_backwards : (k : ℕ) → k < 155 → kth (backwards rows head) (wrap (head + 155)) (k + 1) ≡ kth rows head k
  kth_backwards k l =
      let e = wrap_less 156 head k h (omega arith) in
      let ne : wrap (head + k) ≢ wrap (head + 155) = wrap_apart 156 head k 155 h l (omega arith) in
      ap (λ i. get_or (backwards rows head) i zeros) e
      ∙ get_or-set_other rows (wrap (head + 155)) (wrap (head + k)) (older rows head) zeros ne

  pub first_backwards : kth (backwards rows head) (wrap (head + 155)) 0 ≡ older rows head
  first_backwards =
      let b : wrap (head + 155) < 156 = wrap_below 156 (head + 155) (omega arith) in
      let l : wrap (head + 155) < length rows = omega arith in
      ap (λ i. get_or (backwards rows head) i zeros) (wrap_zero 156 (wrap (head + 155)) b)
      ∙ get_or-set_same rows (wrap (head + 155)) (older rows head) zeros l

-- a step back gives the row that a step on put away
pub older_onwards : (rows : List Row) (head : ℕ) → length rows ≡ 156 → head < 156
    → older (onwards rows head) (wrap (head + 1)) ≡ kth rows head 0
older_onwards rows head len h =
    let a = last_onwards rows head len h in
    let b = kth_onwards rows head len h 154 (omega arith) in
    let d = kth_onwards rows head len h 107 (omega arith) in
    let u = step_undone mask (kth rows head 155) (kth rows head 108) (kth rows head 0) in
    cc

pub step_there_and_back : StepThereAndBack
step_there_and_back rows head len h =
    let e = wrap_first 156 head h in
    let z = wrap_zero 156 head h in
    let o = older_onwards rows head len h in
    let s = set-set rows (wrap (head + 0)) (newer rows head) (kth rows head 0) in
    let g = set-get_or rows (wrap (head + 0)) zeros in
    (e, ap (λ i. set (onwards rows head) i (older (onwards rows head) (wrap (head + 1)))) (e ∙ sym z) ∙ ap (set (onwards rows head) (wrap (head + 0))) o ∙ s ∙ g)

newer_backwards : (rows : List Row) (head : ℕ) → length rows ≡ 156 → head < 156
    → newer (backwards rows head) (wrap (head + 155)) ≡ kth rows head 155
newer_backwards rows head len h =
    let a = first_backwards rows head len h in
    let b = kth_backwards rows head len h 154 (omega arith) in
    let d = kth_backwards rows head len h 107 (omega arith) in
    let u = undone_stepped mask (kth rows head 155) (kth rows head 154) (kth rows head 107) in
    cc

pub step_back_and_there : StepBackAndThere
step_back_and_there rows head len h =
    let p : ℕ = wrap (head + 155) in
    let z : wrap (p + 0) ≡ p = wrap_zero 156 p (wrap_below 156 (head + 155) (omega arith)) in
    let n = newer_backwards rows head len h in
    let s = set-set rows p (older rows head) (kth rows head 155) in
    let g = set-get_or rows p zeros in
    (wrap_last 156 head h, ap (λ i. set (backwards rows head) i (newer (backwards rows head) p)) z ∙ ap (set (backwards rows head) p) n ∙ s ∙ g)

-- what the ring holds of the recursion
pub kept_onwards : (w : ℕ → Row) (rows : List Row) (head f : ℕ) → length rows ≡ 156 → head < 156
    → Kept w rows head f 156 → (newer rows head ≡ x w (f + 156)) × Kept w (onwards rows head) (wrap (head + 1)) (f + 1) 156
unfolding Kept
kept_onwards w rows head f len h kept =
    let a = kept 155 (omega arith) in
    let b = kept 108 (omega arith) in
    let d = kept 0 (omega arith) in
    let r = recursion w f in
    let new : newer rows head ≡ x w (f + 156) = cc in (
      new,
      λ k l. elim (cases_lt k 155) [
        | inl s ↦ kth_onwards rows head len h k s ∙ kept (k + 1) (omega arith) ∙ ap (x w) (omega arith)
        | inr s ↦
            let e : k ≡ 155 = omega arith in
            ap (kth (onwards rows head) (wrap (head + 1))) e ∙ last_onwards rows head len h ∙ new ∙ ap (x w) (omega arith)
      ],
    )

pub kept_backwards : (w : ℕ → Row) (rows : List Row) (head f : ℕ) → length rows ≡ 156 → head < 156
    → Kept w rows head (f + 1) 156 → Kept w (backwards rows head) (wrap (head + 155)) f 156
unfolding Kept
kept_backwards w rows head f len h kept =
    let a : kth rows head 155 ≡ x w (f + 156) = kept 155 (omega arith) ∙ ap (x w) (omega arith) in
    let b : kth rows head 154 ≡ x w (f + 155) = kept 154 (omega arith) ∙ ap (x w) (omega arith) in
    let d : kth rows head 107 ≡ x w (f + 108) = kept 107 (omega arith) ∙ ap (x w) (omega arith) in
    let r = recursion w f in
    let u = step_undone mask (x w (f + 155)) (x w (f + 108)) (x w (f + 0)) in
    let old : older rows head ≡ x w (f + 0) =
    ap (λ t. unstep_row mask t (kth rows head 154) (kth rows head 107)) (a ∙ r)
    ∙ ap (λ t. unstep_row mask (step_row mask (x w (f + 155)) (x w (f + 108)) (x w (f + 0))) t (kth rows head 107)) b
    ∙ ap (unstep_row mask (step_row mask (x w (f + 155)) (x w (f + 108)) (x w (f + 0))) (x w (f + 155))) d
    ∙ u in
    λ k l. elim (cases_lt 0 k) [
      | inl s ↦
          let e : k ≡ k - 1 + 1 = omega arith in
          ap (kth (backwards rows head) (wrap (head + 155))) e ∙ kth_backwards rows head len h (k - 1) (omega arith)
          ∙ kept (k - 1) (omega arith) ∙ ap (x w) (omega arith)
      | inr s ↦
          let e : k ≡ 0 = omega arith in
          ap (kth (backwards rows head) (wrap (head + 155))) e ∙ first_backwards rows head len h ∙ old ∙ ap (x w) (omega arith)
    ]

-- one more row recorded
pub kept_more : (w : ℕ → Row) (rows : List Row) (head n : ℕ) (r : Row) → length rows ≡ 156 → head < 156 → n < 156
    → r ≡ x w n → Kept w rows head 0 n → Kept w (set rows (wrap (head + n)) r) head 0 (n + 1)
unfolding Kept
kept_more w rows head n r len h b e kept k l = elim (cases_lt k n) [
  | inl s ↦
      get_or-set_other rows (wrap (head + n)) (wrap (head + k)) r zeros (wrap_apart 156 head k n h s b) ∙ kept k s
  | inr s ↦
      let same : k ≡ n = omega arith in
      let in_range : wrap (head + n) < length rows = omega (arith, wrap_below 156 (head + n) (omega arith)) in
      ap (λ i. get_or (set rows (wrap (head + n)) r) (wrap (head + i)) zeros) same
      ∙ get_or-set_same rows (wrap (head + n)) r zeros in_range ∙ e ∙ ap (x w) (omega arith)
]

pub kept_fewer : (w : ℕ → Row) (rows : List Row) (head f n m : ℕ) → m ≤ n → Kept w rows head f n → Kept w rows head f m
unfolding Kept
kept_fewer w rows head f n m le kept k l = kept k (omega arith)
