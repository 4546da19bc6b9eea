-- The rows of an IV and a key, read from their bytes, both twice.
use Rattle.std.proofs.Common.{◌≡◌, ℕ, zero, suc, ◌+◌, ◌-◌, ◌*◌, ◌<◌, ◌≤◌, List, ◌++◌, length, get_or, take, drop, false, Option, Some, None, sym, refl, ap, ◌∙◌, inl, inr, arith, append_assoc, length-append, zero-add}
use Rattle.std.specs.Borrow.{Bor}
use Rattle.std.specs.List.{enumerate_from}
use Rattle.std.specs.Simd.{first_chunks}
use Rattle.std.specs.Iterator.{Yields}
use Rattle.std.specs.Slice.Iter.{iter_rest}
use Rattle.std.specs.Iterator.Adapters.{chain_first, chain_second, chain_first_done, chain_second_done, chain_steps}
use Rattle.std.specs.declared.slice.Iter.{Iter}
use Rattle.std.specs.declared.iter.Chain.{Chain}
use Rattle.std.proofs.iter.Yields.{fronts}
use Rattle.std.proofs.lemmas.Bool.{cond-true, cond-false, lt-ltb, le-ltb, cases_lt}
use Rattle.std.proofs.lemmas.List.{drop-drop, get_or-take, get_or-drop, get_or_append_left, get_or-append_right}
use Rattle.std.proofs.lemmas.List.FromFn.{length-enumerate_from, get_or-enumerate_from}
use Rattle.std.proofs.lemmas.Iterator.{YieldsList, YieldsList-from_slice}
use Rattle.std.proofs.lemmas.Iterator.Consumers.{YieldsList-from_chain, YieldsList-at, YieldsList-turn, YieldsList-end}
use Rattle.row.specs.Bytes.{bytes_row, row_at, lane_at}
use Rattle.row.proofs.Wraps.{wrap_ways}
use Rattle.booter.specs.Registers.{wrap}
use Rattle.booter.specs.Loading.{count, chunks, height, once, twice}

-- the items of an iterator and then those of a slice
pub chained : {S A : Type 0} {steps : S → Option (Bor A) → S → Type 0} {xs : List A} {a : S} {s : Chain S (Iter A)}
    → (ys : List A) → YieldsList steps (λ x. x.now) a xs → chain_first s ≡ a → iter_rest (chain_second s) ≡ ys
    → chain_first_done s ≡ false → chain_second_done s ≡ false → YieldsList (chain_steps steps fronts) (λ x. x.now) s (xs ++ ys)
chained ys road first second d e = YieldsList-from_chain (YieldsList-at first road) (YieldsList-from_slice ys second) d e

chunk_length : (n k : ℕ) (bytes : List ℕ) → length (first_chunks n k bytes) ≡ k
chunk_length n zero bytes = refl
chunk_length n (suc k) bytes = ap (λ j. suc j) (chunk_length n k (drop n bytes))

chunk_at : (n k i : ℕ) (bytes d : List ℕ) → i < k → get_or (first_chunks n k bytes) i d ≡ take n (drop (n * i) bytes)
chunk_at n zero i bytes d l = absurd (omega arith)
chunk_at n (suc k) zero bytes d l = let e : 0 ≡ n * 0 = omega arith in ap (λ m. take n (drop m bytes)) e
chunk_at n (suc k) (suc i) bytes d l =
    let e : n + n * i ≡ n * suc i = omega arith in
    chunk_at n k i (drop n bytes) d (omega arith) ∙ ap (take n) (drop-drop (n * i) n bytes ∙ ap (λ m. drop m bytes) e)

-- bytes, a lane and a row of 16 bytes from m on
module _ (bytes : List ℕ) (m : ℕ) where
  byte_in : (j q : ℕ) → j < 16 → m + j ≡ q → get_or (take 16 (drop m bytes)) j 0 ≡ get_or bytes q 0
  byte_in j q l e = get_or-take 16 (drop m bytes) j 0 l ∙ get_or-drop m bytes j 0 ∙ ap (λ k. get_or bytes k 0) e

  lane_in_chunk : (j q : ℕ) → j + 4 ≤ 16 → m + j ≡ q → lane_at (take 16 (drop m bytes)) j ≡ lane_at bytes q
  lane_in_chunk j q l e =
      let a = byte_in j q (omega arith) e in
      let b = byte_in (j + 1) (q + 1) (omega arith) (omega arith) in
      let c = byte_in (j + 2) (q + 2) (omega arith) (omega arith) in
      let d = byte_in (j + 3) (q + 3) (omega arith) (omega arith) in
      omega arith

  row_in_chunk : bytes_row (take 16 (drop m bytes)) ≡ row_at bytes m
  unfolding bytes_row row_at
  row_in_chunk =
      let a = lane_in_chunk 0 m (omega arith) (omega arith) in
      let b = lane_in_chunk 4 (m + 4) (omega arith) refl in
      let c = lane_in_chunk 8 (m + 8) (omega arith) refl in
      let d = lane_in_chunk 12 (m + 12) (omega arith) refl in
      cc

row_in : (bytes d : List ℕ) (i : ℕ) → i < count bytes → bytes_row (get_or (chunks bytes) i d) ≡ row_at bytes (16 * i)
row_in bytes d i l = ap bytes_row (chunk_at 16 (count bytes) i bytes d l) ∙ row_in_chunk bytes (16 * i)

-- the chunks of the IV and the key, and both twice
abbrev pub half : List ℕ → List ℕ → List (List ℕ)
half key iv = chunks iv ++ chunks key

abbrev pub halves : List ℕ → List ℕ → List (List ℕ)
halves key iv = chunks iv ++ chunks key ++ chunks iv ++ chunks key

module _ (key iv : List ℕ) where
  half_length : length (half key iv) ≡ count iv + count key
  half_length =
      length-append (chunks iv) (chunks key)
      ∙ cc (chunk_length 16 (count iv) iv, chunk_length 16 (count key) key)

  pub halves_length : length (halves key iv) ≡ height key iv
  halves_length =
      let e : halves key iv ≡ half key iv ++ half key iv = append_assoc (half key iv) (chunks iv) (chunks key) in
      ap length e ∙ length-append (half key iv) (half key iv) ∙ omega (arith, half_length)

  once_in : (d : List ℕ) (i : ℕ) → i < count iv + count key → bytes_row (get_or (half key iv) i d) ≡ once key iv i
  unfolding once
  once_in d i l = elim (cases_lt i (count iv)) [
    | inl s ↦
        ap bytes_row (get_or_append_left (chunks iv) (chunks key) d i (omega (arith, chunk_length 16 (count iv) iv)))
        ∙ row_in iv d i s ∙ sym (cond-true _ _ _ (lt-ltb i (count iv) s))
    | inr s ↦
        ap bytes_row (get_or-append_right (chunks iv) (chunks key) (count iv) i d (chunk_length 16 (count iv) iv) s)
        ∙ row_in key d (i - count iv) (omega arith) ∙ sym (cond-false _ _ _ (le-ltb i (count iv) s))
  ]

  twice_in : (d : List ℕ) (i : ℕ) → i < height key iv → bytes_row (get_or (halves key iv) i d) ≡ twice key iv i
  unfolding twice
  twice_in d i l =
      let n = count iv + count key in
      let both : halves key iv ≡ half key iv ++ half key iv = append_assoc (half key iv) (chunks iv) (chunks key) in
      ap (λ rows. bytes_row (get_or rows i d)) both ∙ elim (wrap_ways n i) [
        | inl e ↦
            ap bytes_row (get_or_append_left (half key iv) (half key iv) d i (omega (arith, half_length)))
            ∙ once_in d i e.0 ∙ ap (once key iv) (sym e.1)
        | inr e ↦
            let w : i - n ≡ wrap n i = omega arith in
            ap bytes_row (get_or-append_right (half key iv) (half key iv) n i d half_length e.0)
            ∙ once_in d (i - n) (omega arith) ∙ ap (once key iv) w
      ]

-- what a loop over both, counted, has come to
module _ {S : Type 0} {steps : S → Option (ℕ × Bor (List ℕ)) → S → Type 0} {s : S} (key iv : List ℕ)
    (road : YieldsList steps (λ p. (p.0, p.1.now)) s (enumerate_from 0 (halves key iv)))
    (xs : List (ℕ × Bor (List ℕ))) (t : S) (so_far : Yields steps s xs t) (r : Option (ℕ × Bor (List ℕ))) (u : S) where
  pub halves_turn : (x : ℕ × Bor (List ℕ)) → r ≡ Some x → steps t r u
      → (x.0 ≡ length xs) × (length xs < height key iv) × (bytes_row x.1.now ≡ twice key iv (length xs))
  halves_turn x is step =
      let turn = YieldsList-turn road xs t so_far r u x is step in
      let below : length xs < length (halves key iv) = omega (arith, turn.0, length-enumerate_from 0 (halves key iv)) in
      let is_at = turn.1 ∙ get_or-enumerate_from 0 (halves key iv) (length xs) (x.0, x.1.now) below in
      let low : length xs < height key iv = omega (arith, halves_length key iv) in
      let row = ap (λ p. bytes_row p.1) is_at ∙ twice_in key iv x.1.now (length xs) low in
      (ap (λ p. p.0) is_at ∙ zero-add (length xs), low, row)

  pub halves_end : r ≡ None → steps t r u → length xs ≡ height key iv
  halves_end is step =
      (YieldsList-end road xs t so_far r u is step).1 ∙ length-enumerate_from 0 (halves key iv) ∙ halves_length key iv
