-- The equations leave nothing open: sequences that meet them give the same words, output rows and memories.
use Rattle.std.proofs.Common.{◌≡◌, ℕ, zero, suc, ◌+◌, ◌-◌, ◌*◌, ◌/◌, ◌%◌, ◌<◌, ◌≤◌, ◌⊎◌, List, sym, ap, ◌∙◌, inl, inr, ⊎_elim, add-one, arith, below_more}
use lib.Bits.{bit_or}
use Rattle.std.proofs.lemmas.Bool.{cases_lt}
use Rattle.row.specs.declared.Row.{Row}
use Rattle.row.specs.Rows.{◌+₃₂◌, ◌-₃₂◌, ◌⊗₃₂◌, ◌⊕◌, ◌&◌, ◌>>₃₂◌, ◌>>₆₄◌, odd, at2031, at0321, ps1, ps2, ps3}
use Rattle.keystream.specs.Wides.{◌<<₃₂◌, ◌∣◌, lower16, upper16}
use Rattle.mother.specs.Generators.{Lawful}
use Rattle.cryptmt.specs.Equations.{Rows, Generated, Sequences, CryptMT, Narrows, Narrow, H, mask, marked, rows, row_of, start_row}

-- the four places of a row
four : (n : ℕ) → (n ≡ 4 * (n / 4)) ⊎ ((n ≡ 4 * (n / 4) + 1) ⊎ ((n ≡ 4 * (n / 4) + 2) ⊎ (n ≡ 4 * (n / 4) + 3)))
four n =
    elim (cases_lt (n % 4) 1) [
      | inl h ↦ inl (omega arith)
      | inr h ↦ inr (elim (cases_lt (n % 4) 2) [
        | inl k ↦ inl (omega arith)
        | inr k ↦ inr (elim (cases_lt (n % 4) 3) [ inl l ↦ inl (omega arith) | inr l ↦ inr (omega arith) ])
      ])
    ]

module _ (key iv : List ℕ) (lk : Lawful key) (li : Lawful iv) (s t : Rows) (p : Generated key iv s) (q : Generated key iv t) where
  -- the register, copy by copy
  at_other : (j n : ℕ) → j ≡ n → s.b n ≡ t.b n → s.b j ≡ t.b j
  at_other j n e h = ap s.b e ∙ h ∙ ap t.b (sym e)

  first_half : (j : ℕ) → j < rows iv + rows key → s.b j ≡ t.b j
  first_half j lt =
      ⊎_elim (λ l. p.iv_first j l ∙ sym (q.iv_first j l))
      (λ le. let l : j - rows iv < rows key = omega arith in
      at_other j (rows iv + (j - rows iv)) (omega arith) (p.key_first (j - rows iv) l ∙ sym (q.key_first (j - rows iv) l)))
      (cases_lt j (rows iv))

  second_iv : (j : ℕ) → rows iv + rows key ≤ j → j < rows iv + rows key + rows iv → s.b j ≡ t.b j
  second_iv j le lt =
      let i : ℕ = j - (rows iv + rows key) in
      let l : i < rows iv = omega arith in
      at_other j (rows iv + rows key + i) (omega arith) (p.iv_second i l ∙ sym (q.iv_second i l))

  second_key : (j : ℕ) → rows iv + rows key + rows iv ≤ j → j + 1 < H key iv → s.b j ≡ t.b j
  second_key j le lt =
      let i : ℕ = j - (rows iv + rows key + rows iv) in
      let l : i + 1 < rows key = omega arith in
      at_other j (rows iv + rows key + rows iv + i) (omega arith) (p.key_second i l ∙ sym (q.key_second i l))

  last_row : (j : ℕ) → H key iv ≤ j + 1 → j < H key iv → s.b j ≡ t.b j
  last_row j le lt = at_other j (H key iv - 1) (omega arith) (p.last ∙ sym q.last)

  register_same : (j : ℕ) → j < H key iv → s.b j ≡ t.b j
  register_same j lt =
      ⊎_elim (first_half j)
      (λ le. ⊎_elim (second_iv j le) (λ le'. ⊎_elim (second_key j le') (λ end. last_row j end lt) (cases_lt (j + 1) (H key iv))) (cases_lt j (rows iv + rows key + rows iv)))
      (cases_lt j (rows iv + rows key))

  -- n steps of the booter
  abbrev Same : ℕ → Type 0
  Same n = ((j : ℕ) → j < H key iv + n → s.b j ≡ t.b j) × ((j : ℕ) → j < n → s.a j ≡ t.a j)

  turn_same : (n : ℕ) → Same n → s.a n ≡ t.a n
  turn_same zero h =
      p.turn_first ∙ ap (λ r. odd (row_of key 0) ⊗₃₂ ps2 r) (h.0 (H key iv - 1) (omega arith)) ∙ sym q.turn_first
  turn_same (suc n) h =
      ap s.a (sym (add-one n))
      ∙ p.turn n
      ∙ ap (λ r. r ⊗₃₂ ps2 (s.b (H key iv + n))) (h.1 n (omega arith))
      ∙ ap (λ r. t.a n ⊗₃₂ ps2 r) (h.0 (H key iv + n) (omega arith))
      ∙ sym (q.turn n)
      ∙ ap t.a (add-one n)

  fed_same : (n : ℕ) → Same n → s.b (H key iv + n) ≡ t.b (H key iv + n)
  fed_same n h =
      p.fed_back n
      ∙ ap (λ r. ps1 (r +₃₂ s.b (H key iv + n - 2)) -₃₂ s.a n) (h.0 n (omega arith))
      ∙ ap (λ r. ps1 (t.b n +₃₂ r) -₃₂ s.a n) (h.0 (H key iv + n - 2) (omega arith))
      ∙ ap (λ r. ps1 (t.b n +₃₂ t.b (H key iv + n - 2)) -₃₂ r) (turn_same n h)
      ∙ sym (q.fed_back n)

  same : (n : ℕ) → Same n
  same zero = (λ j lt. register_same j (omega arith), λ j lt. absurd (omega arith))
  same (suc n) =
      let h : Same n = same n in (
        λ j lt. below_more (λ i. s.b i ≡ t.b i) (H key iv + n) h.0 (fed_same n h) j (omega arith),
        λ j lt. below_more (λ i. s.a i ≡ t.a i) n h.1 (turn_same n h) j (omega arith),
      )

  pub booter_same : (j : ℕ) → s.b j ≡ t.b j
  booter_same j = (same (suc j)).0 j (omega arith)

  -- the words of the booter, and the rows and words of the recursion
  first_words : (i : ℕ) → i < 156 → s.w i ≡ t.w i
  first_words i lt =
      p.word_first i lt
      ∙ ap (λ r. r +₃₂ s.b (H key iv + (H key iv + 2 + i) - 2)) (booter_same (H key iv + 2 + i))
      ∙ ap (λ r. t.b (H key iv + 2 + i) +₃₂ r) (booter_same (H key iv + (H key iv + 2 + i) - 2))
      ∙ sym (q.word_first i lt)

  seed_same : (j : ℕ) → j < 156 → s.x j ≡ t.x j
  seed_same zero lt = p.row_marked ∙ ap marked (first_words 0 lt) ∙ sym q.row_marked
  seed_same (suc j) lt =
      let pos : 0 < suc j = omega arith in
      p.row_first (suc j) pos lt ∙ first_words (suc j) lt ∙ sym (q.row_first (suc j) pos lt)

  next_same : (n : ℕ) → ((j : ℕ) → j < 156 + n → s.x j ≡ t.x j) → s.x (156 + n) ≡ t.x (156 + n)
  next_same n h =
      p.row_next n
      ∙ ap (λ r. r & mask ⊕ s.x (108 + n) >>₆₄ 3 ⊕ at2031 (s.x (108 + n)) ⊕ at0321 (s.x n)) (h (155 + n) (omega arith))
      ∙ ap (λ r. t.x (155 + n) & mask ⊕ r >>₆₄ 3 ⊕ at2031 r ⊕ at0321 (s.x n)) (h (108 + n) (omega arith))
      ∙ ap (λ r. t.x (155 + n) & mask ⊕ t.x (108 + n) >>₆₄ 3 ⊕ at2031 (t.x (108 + n)) ⊕ at0321 r) (h n (omega arith))
      ∙ sym (q.row_next n)

  rows_same : (n j : ℕ) → j < 156 + n → s.x j ≡ t.x j
  rows_same zero j lt = seed_same j (omega arith)
  rows_same (suc n) j lt = below_more (λ i. s.x i ≡ t.x i) (156 + n) (rows_same n) (next_same n (rows_same n)) j (omega arith)

  pub words_same : (i : ℕ) → s.w i ≡ t.w i
  words_same i = ⊎_elim (first_words i) later (cases_lt i 156)
    where
      later : 156 ≤ i → s.w i ≡ t.w i
      later le =
          let e : i ≡ 156 + (i - 156) = omega arith in
          ap s.w e
          ∙ p.word_next (i - 156)
          ∙ rows_same (157 + (i - 156)) (157 + (i - 156)) (omega arith)
          ∙ sym (q.word_next (i - 156))
          ∙ ap t.w (sym e)

-- with the wide filter, the memories and the output rows
module _ (key iv : List ℕ) (lk : Lawful key) (li : Lawful iv) (s t : Sequences) (p : CryptMT key iv s) (q : CryptMT key iv t) where
  word_same : (i : ℕ) → s.below.w i ≡ t.below.w i
  word_same = words_same key iv lk li s.below t.below p.generated q.generated

  start_same : start_row key iv s.below ≡ start_row key iv t.below
  start_same = booter_same key iv lk li s.below t.below p.generated q.generated (2 * H key iv + 1)

  memory_same : (m : ℕ) → s.y m ≡ t.y m
  memory_same zero = p.memory_first ∙ start_same ∙ sym q.memory_first
  memory_same (suc m) =
      ap s.y (sym (add-one m))
      ∙ p.memory_next m
      ∙ ap (λ r. ps3 r ⊗₃₂ s.below.w m) (memory_same m)
      ∙ ap (λ r. ps3 (t.y m) ⊗₃₂ r) (word_same m)
      ∙ sym (q.memory_next m)
      ∙ ap t.y (add-one m)

  pub output_same : (i : ℕ) → s.z i ≡ t.z i
  output_same i =
      p.output i
      ∙ ap (λ r. (r ⊕ r >>₃₂ 16) & lower16 ∣ (s.y (2 * i + 1) ⊕ s.y (2 * i + 1) <<₃₂ 16) & upper16) (memory_same (2 * i))
      ∙ ap (λ r. (t.y (2 * i) ⊕ t.y (2 * i) >>₃₂ 16) & lower16 ∣ (r ⊕ r <<₃₂ 16) & upper16) (memory_same (2 * i + 1))
      ∙ sym (q.output i)

-- with a narrow filter, the words of the lanes and the memories
module _ (f : ℕ → ℕ → ℕ) (key iv : List ℕ) (lk : Lawful key) (li : Lawful iv) (s t : Narrows)
    (p : Narrow f key iv s) (q : Narrow f key iv t) where
  row_same : (i : ℕ) → s.below.w i ≡ t.below.w i
  row_same = words_same key iv lk li s.below t.below p.generated q.generated

  from_row : (n k : ℕ) (l : Row → ℕ) → n ≡ k → s.v k ≡ l (s.below.w (n / 4)) → t.v k ≡ l (t.below.w (n / 4)) → s.v n ≡ t.v n
  from_row n k l e a b = ap s.v e ∙ a ∙ ap l (row_same (n / 4)) ∙ sym b ∙ ap t.v (sym e)

  lane_same : (n : ℕ) → s.v n ≡ t.v n
  lane_same n =
      let i = n / 4 in
      elim (four n) [
        | inl e ↦ from_row n (4 * i) (λ r. r.l0) e (p.lane_0 i) (q.lane_0 i)
        | inr (inl e) ↦ from_row n (4 * i + 1) (λ r. r.l1) e (p.lane_1 i) (q.lane_1 i)
        | inr (inr (inl e)) ↦ from_row n (4 * i + 2) (λ r. r.l2) e (p.lane_2 i) (q.lane_2 i)
        | inr (inr (inr e)) ↦ from_row n (4 * i + 3) (λ r. r.l3) e (p.lane_3 i) (q.lane_3 i)
      ]

  first_same : start_row key iv s.below ≡ start_row key iv t.below
  first_same = booter_same key iv lk li s.below t.below p.generated q.generated (2 * H key iv + 1)

  pub narrow_same : (m : ℕ) → s.y m ≡ t.y m
  narrow_same zero = p.memory_first ∙ ap (λ r. bit_or r.l0 1) first_same ∙ sym q.memory_first
  narrow_same (suc m) =
      ap s.y (sym (add-one m))
      ∙ p.memory_next m
      ∙ ap (λ y. f y (s.v m)) (narrow_same m)
      ∙ ap (f (t.y m)) (lane_same m)
      ∙ sym (q.memory_next m)
      ∙ ap t.y (add-one m)
