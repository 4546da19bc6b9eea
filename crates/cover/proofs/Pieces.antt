-- A buffer that is covered piece by piece.
use Rattle.std.proofs.Common.{◌≡◌, ℕ, ◌+◌, ◌-◌, ◌*◌, ◌/◌, ◌<◌, ◌≤◌, List, ◌++◌, length, take, drop, sym, ap, ◌∙◌, arith, length-take, drop-drop, take-add, mul-le-mul_right}
use borrow.Rule.Slice.PartMut.{put_mid}
use Rattle.std.proofs.Math.Nat.{mul-div_cancel}
use native.Mathlib.Nat.{mul-add-div_right}
use Rattle.std.proofs.lemmas.List.{take_all}
use Rattle.std.proofs.lemmas.Slice.{take-put_mid, drop-put_mid}
use Rattle.cover.specs.Lists.{covered}
use Rattle.cover.proofs.Bytes.{covered-append}

-- the piece from `at` to `end` of a buffer bs, whose first bytes are covered already, becomes new
module _ (at end : ℕ) (old bs new : List ℕ) (same : length bs ≡ length old) (order : at ≤ end) (within : end ≤ length old)
    (long : length new ≡ end - at) (rest : drop at bs ≡ drop at old) where
  pub rest_more : drop end (put_mid at (end - at) bs new) ≡ drop end old
  rest_more =
      let h : at + (end - at) ≤ end = omega arith in
      let l : at ≤ length bs = omega arith in
      let e : at + (end - at) ≡ end = omega arith in
      drop-put_mid at (end - at) bs new end h l long
      ∙ ap (λ n. drop n bs) (sym e)
      ∙ sym (drop-drop (end - at) at bs)
      ∙ ap (drop (end - at)) rest
      ∙ drop-drop (end - at) at old
      ∙ ap (λ n. drop n old) e

  pub front_more : (K : ℕ → ℕ) (p q : ℕ) → q ≡ p + at → take at bs ≡ covered K p (take at old)
      → new ≡ covered K q (take (end - at) (drop at bs)) → take end (put_mid at (end - at) bs new) ≡ covered K p (take end old)
  front_more K p q here front piece =
      let l : at ≤ length bs = omega arith in
      let e : end ≡ at + length new = omega arith in
      let f : q ≡ p + length (take at old) = omega (arith, length-take at old) in
      let whole : at + (end - at) ≡ end = omega arith in
      take-put_mid at (end - at) bs new end e l
      ∙ ap (λ t. t ++ new) front
      ∙ ap (λ t. covered K p (take at old) ++ t) (piece ∙ ap (λ t. covered K q (take (end - at) t)) rest ∙ ap (λ t. covered K t (take (end - at) (drop at old))) f)
      ∙ sym (covered-append K p (take at old) (take (end - at) (drop at old)))
      ∙ ap (covered K p) (sym (take-add at (end - at) old) ∙ ap (λ n. take n old) whole)

-- the whole buffer
pub all_pieces : (K : ℕ → ℕ) (p at : ℕ) (old bs : List ℕ) → length bs ≡ length old → length old ≤ at → take at bs ≡ covered K p (take at old)
    → bs ≡ covered K p old
all_pieces K p at old bs same le e =
    let l : length bs ≤ at = omega arith in
    sym (take_all at bs l) ∙ e ∙ ap (covered K p) (take_all at old le)

-- piece i of n bytes lies within whole pieces of that size
pub piece_within : (i n size long : ℕ) → n ≡ size → i < long / n → long / size * size ≡ long → (i + 1) * n ≤ long
piece_within i n size long same lt e =
    let k : (i + 1) * n ≤ long / n * n = mul-le-mul_right n (omega arith) in
    let f : long / n * n ≡ long = ap (λ t. long / t * t) same ∙ e in
    omega arith

-- position of block i + k
pub later_block : (i k n size : ℕ) → n ≡ size → (i + k) * size ≡ i * size + k * n
later_block i k n size e = spread i k size ∙ ap (λ t. i * size + k * t) (sym e)
  where
    spread : (i k n : ℕ) → (i + k) * n ≡ i * n + k * n
    spread i k n = omega arith

-- whole pieces of `size`, split in groups of four, of `front` bytes, and others, of `back` bytes
pub record Groups (size long front back : ℕ) : Type 0 where
  pub grouped : front / (4 * size) * (4 * size) ≡ front
  pub others : back / size * size ≡ back
  pub blocks : front ≡ 4 * (front / (4 * size)) * size
  pub count : long / size ≡ 4 * (front / (4 * size)) + back / size

pub groups_of : (n size long front back : ℕ) → n ≡ size → 0 < size → long / size * size ≡ long → front ≡ long / (4 * n) * (4 * n)
    → back + long / (4 * n) * (4 * n) ≡ long → Groups size long front back
groups_of n size long front back same pos whole front_is rest =
    let sum : back + front ≡ long = ap (λ t. back + t) front_is ∙ rest in
    let q : ℕ = long / (4 * size) in
    let f : front ≡ q * (4 * size) = front_is ∙ ap (λ t. long / (4 * t) * (4 * t)) same in
    let four : 0 < 4 * size = omega arith in
    let e : front / (4 * size) ≡ q = ap (λ t. t / (4 * size)) f ∙ mul-div_cancel q four in
    let regroup : q * (4 * size) ≡ 4 * q * size = omega arith in
    let total : 4 * q * size + back ≡ long = omega arith in
    let count : long / size ≡ 4 * q + back / size = ap (λ t. t / size) (sym total) ∙ mul-add-div_right pos (4 * q) back in
    let spread : (4 * q + back / size) * size ≡ 4 * q * size + back / size * size = omega arith in
    record {
      grouped = ap (λ t. t * (4 * size)) e ∙ sym f;
      others = omega (arith, ap (λ t. t * size) count);
      blocks = f ∙ regroup ∙ ap (λ t. 4 * t * size) (sym e);
      count = count ∙ ap (λ t. 4 * t + back / size) (sym e);
    }

-- the first bytes of a buffer, whole pieces of `size`
pub whole_front : (n size long front : ℕ) → n ≡ size → 0 < size → front ≡ long / n * n → front ≡ front / size * size
whole_front n size long front same pos is =
    let q : ℕ = long / size in
    let f : front ≡ q * size = is ∙ ap (λ t. long / t * t) same in
    f ∙ ap (λ t. t * size) (sym (mul-div_cancel q pos)) ∙ ap (λ t. t / size * size) (sym f)
