-- The sequences of the pile meet the equations.
use Rattle.std.proofs.Common.{◌≡◌, ℕ, ◌+◌, ◌*◌, ◌/◌, ◌%◌, ◌⊎◌, List, get_or, sym, refl, ap, ◌∙◌, inl, inr, add-one, arith}
use Rattle.std.proofs.lemmas.Bool.{cases_lt}
use Rattle.row.specs.declared.Row.{Row}
use Rattle.row.specs.Rows.{lane_in}
use Rattle.row.specs.Bytes.{row_bytes}
use Rattle.mother.specs.Generators.{Words, Lawful}
use Rattle.keystream.specs.declared.narrow.NarrowFilter as by
use Rattle.keystream.specs.Keystreams.{memory, block_bytes, byte_at}
use Rattle.keystream.specs.Narrows.{top_byte}
use Rattle.keystream.specs.Wides.{output}
use Rattle.booter.specs.Sequences as booter
use Rattle.booter.proofs.Loads.{sequences_stand}
use Rattle.handover.specs.Recursion as recursion
use Rattle.handover.proofs.Rows.{first_row, first_rows, later_rows, words_early, words_late}
use Rattle.lanes.specs.Order.{in_lanes}
use Rattle.cryptmt.specs.Equations.{Rows, Generated, Sequences, CryptMT, Narrows, Narrow}
use Rattle.cryptmt.specs.Wide.{wide, wide_words, WideIsCryptMT}
use Rattle.cryptmt.specs.Narrow.{narrow, lane_words, FilterIsDefined}
use Rattle.cryptmt.proofs.Unique.{output_same, narrow_same}

-- of a key and an IV
abbrev below : List ℕ → List ℕ → Rows
below key iv =
    record {
      b = booter.x key iv;
      a = booter.a key iv;
      w = (wide_words key iv).word;
      x = recursion.x (booter.words key iv).word;
    }

generated : (key iv : List ℕ) → Lawful key → Lawful iv → Generated key iv (below key iv)
generated key iv lk li =
    let e = sequences_stand key iv lk li in
    let ws = booter.words key iv in
    record {
      iv_first = e.iv_first;
      key_first = e.key_first;
      iv_second = e.iv_second;
      key_second = e.key_second;
      last = e.last_row;
      turn_first = e.accumulator_first;
      turn = e.accumulator;
      fed_back = e.fed_back;
      word_first = λ i lt. words_early ws i lt ∙ e.output _;
      row_marked = first_row ws.word ∙ ap recursion.marked (sym (words_early ws 0 (omega arith)));
      row_first = λ i pos lt. first_rows ws.word i pos lt ∙ sym (words_early ws i lt);
      row_next = later_rows ws.word;
      word_next = words_late ws;
    }

-- with the wide filter
abbrev pub sequences : List ℕ → List ℕ → Sequences
sequences key iv =
    record {
      below = below key iv;
      y = memory wide (wide_words key iv);
      z = λ i. output (memory wide (wide_words key iv) (2 * i)) (memory wide (wide_words key iv) (2 * i + 1));
    }

pub equations_stand : (key iv : List ℕ) → Lawful key → Lawful iv → CryptMT key iv (sequences key iv)
unfolding output
equations_stand key iv lk li =
    record {
      generated = generated key iv lk li;
      memory_first = refl;
      memory_next = λ m. ap (memory wide (wide_words key iv)) (add-one m);
      output = λ i. refl;
    }

pub wide_is_cryptmt : WideIsCryptMT
wide_is_cryptmt key iv lk li = (
  (sequences key iv, equations_stand key iv lk li),
  λ s meets p. ap (λ r. get_or (row_bytes r) (p % 16) 0) (output_same key iv lk li (sequences key iv) s (equations_stand key iv lk li) meets (p / 16)),
)

-- word n is lane c of row i
in_lane : (ws : Words Row) (n i c : ℕ) → n / 4 ≡ i → n % 4 ≡ c → (in_lanes ws).word n ≡ lane_in (ws.word i) c
in_lane ws n i c p q = ap (λ k. lane_in (ws.word k) (n % 4)) p ∙ ap (lane_in (ws.word i)) q

even_or_odd : (p : ℕ) → ((p % 2 ≡ 0) × (2 * (p / 2) ≡ p)) ⊎ ((p % 2 ≡ 1) × (2 * (p / 2) + 1 ≡ p))
even_or_odd p =
    elim (cases_lt (p % 2) 1) [ inl h ↦ inl (omega arith, omega arith) | inr h ↦ inr (omega arith, omega arith) ]

-- with a narrow filter
module _ {F : Type 0} (n : by.Ghosts F) (key iv : List ℕ) where
  abbrev narrows : Narrows
  narrows = record { below = below key iv; v = (lane_words key iv).word; y = memory (narrow {F = F} n.product) (lane_words key iv) }

  narrow_stands : Lawful key → Lawful iv → Narrow n.product key iv narrows
  narrow_stands lk li =
      let ws = wide_words key iv in
      record {
        generated = generated key iv lk li;
        lane_0 = λ i. in_lane ws (4 * i) i 0 (omega arith) (omega arith);
        lane_1 = λ i. in_lane ws (4 * i + 1) i 1 (omega arith) (omega arith);
        lane_2 = λ i. in_lane ws (4 * i + 2) i 2 (omega arith) (omega arith);
        lane_3 = λ i. in_lane ws (4 * i + 3) i 3 (omega arith) (omega arith);
        memory_first = refl;
        memory_next = λ m. ap (memory (narrow {F = F} n.product) (lane_words key iv)) (add-one m);
      }

  -- a block has the top bytes of its two memories, so byte p is that of memory p
  byte_is : (ws : Words ℕ) (p : ℕ) → byte_at (narrow {F = F} n.product) ws p ≡ top_byte (memory (narrow {F = F} n.product) ws p)
  byte_is ws p =
      let at : ℕ → ℕ = λ m. top_byte (memory (narrow {F = F} n.product) ws m) in
      let of : ℕ → ℕ = λ k. get_or (block_bytes (narrow {F = F} n.product) ws (p / 2)) k 0 in
      elim (even_or_odd p) [ inl e ↦ ap of e.0 ∙ ap at e.1 | inr e ↦ ap of e.0 ∙ ap at e.1 ]

pub filter_is_defined : {F : Type 0} (n : by.Ghosts F) → FilterIsDefined n
filter_is_defined n key iv lk li = (
  (narrows n key iv, narrow_stands n key iv lk li),
  λ s meets p.
      byte_is n key iv (lane_words key iv) p
      ∙ ap top_byte (narrow_same n.product key iv lk li (narrows n key iv) s (narrow_stands n key iv lk li) meets p),
)
