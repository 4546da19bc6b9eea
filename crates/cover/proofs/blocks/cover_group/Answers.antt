use Rattle.std.specs.Simd.{first_chunks}
use Rattle.std.proofs.lemmas.List.{get_or-take, get_or-drop}
use Rattle.std.proofs.Common.{zero, suc, get_or, ◌<◌, ◌/◌, ◌≡◌, ℕ, ◌+◌, ◌-◌, ◌*◌, ◌≤◌, List, length, take, drop, refl, ap, ◌∙◌, arith, length-take, length-drop, mul-le-mul_right}
use Rattle.keystream.specs.Keystreams.{memory, byte_at}
use Rattle.cover.proofs.Pieces.{rest_more, front_more, all_pieces, later_block}
use Rattle.cover.proofs.Covering.{step_memory, block_of, block_covers}
use Rattle.cover.proofs.blocks.cover_group.Goals as goal

-- word j of piece i of n words
piece_word : {W : Type 0} (n k i j : ℕ) (xs p : List W) (d : W) → i < k → j < n → get_or (get_or (first_chunks n k xs) i p) j d ≡ get_or xs (n * i + j) d
piece_word n zero i j xs p d h l = absurd (omega arith)
piece_word n (suc k) zero j xs p d h l =
    let e : j ≡ n * 0 + j = omega arith in
    get_or-take n xs j d l ∙ ap (λ t. get_or xs t d) e
piece_word n (suc k) (suc i) j xs p d h l =
    let e : n + (n * i + j) ≡ n * suc i + j = omega arith in
    piece_word n k i j (drop n xs) p d (omega arith) l ∙ get_or-drop n xs (n * i + j) d ∙ ap (λ t. get_or xs t d) e

pub loop-i-preserved : goal.loop-i-preserved
loop-i-preserved g c =
    let f = g.F.Filter in
    let whole = g.met.F.Filter.whole in
    let i : ℕ = c.loop-i.i in
    let n : ℕ = c.SIZE-size.result in
    let at : ℕ = i * n in
    let end : ℕ = (i + 1) * n in
    let old : List ℕ = c.args.bytes.now in
    let bs : List ℕ = c.loop-i.bytes in
    let new : List ℕ = c.xor.new.bytes in
    let count = c.as_chunks.ensures.front_len ∙ ap (λ t. t / 2) c.requires.0 in
    let inside : i < 4 = omega (arith, c.loop-i-test.true, count) in
    let order : at ≤ end = omega arith in
    let four : (i + 1) * n ≤ 4 * n = mul-le-mul_right n (omega (arith, inside)) in
    let within : end ≤ length old = omega (arith, four, c.requires.1, ap (λ t. 4 * t) c.SIZE-size.ensures) in
    let part : length (take (end - at) (drop at bs)) ≡ end - at = simp (length-take, length-drop) (omega (arith, c.loop-i.auto.bytes)) in
    let long : length new ≡ end - at = c.xor.auto.bytes ∙ part in (
      rest_more at end old bs new c.loop-i.auto.bytes order within long c.loop-i.invariant.0,
      λ ws k pos last words.
          let here = c.loop-i.invariant.1 ws k pos last words in
          let j : ℕ = k + i in
          let pair = c.index-pairs-i.is ∙ ap (λ t. get_or t i c.index-pairs-i.result) (c.as_chunks.ensures.front ∙ ap (λ t. first_chunks 2 (t / 2) c.args.words.now) c.requires.0) in
          let at_word : (j : ℕ) (d : g.row.F-Word.Denot) → j < 2 → get_or c.index-pairs-i.result j d ≡ ws.word (2 * (k + i) - 1 + j) =
          λ j d lt.
          let e : 2 * k - 1 + (2 * i + j) ≡ 2 * (k + i) - 1 + j = omega (arith, pos) in
          ap (λ t. get_or t j d) pair
          ∙ piece_word 2 4 i j c.args.words.now c.index-pairs-i.result d inside lt
          ∙ words (2 * i + j) d (omega (arith, c.requires.0))
          ∙ ap ws.word e in
          let w : get_or c.index-pairs-i.result 0 c.index-pairs-0.result ≡ ws.word (2 * j - 1) = at_word 0 c.index-pairs-0.result (omega arith) ∙ ap ws.word (omega arith) in
          let x : get_or c.index-pairs-i.result 1 c.index-pairs-1.result ≡ ws.word (2 * j) = at_word 1 c.index-pairs-1.result (omega arith) ∙ ap ws.word (omega (arith, pos)) in
          let first = step_memory f whole ws (2 * j - 1) (2 * j) c.loop-i.last c.step-first.result _ (omega (arith, pos)) here.1 w c.step-first.ensures in
          let second = step_memory f whole ws (2 * j) (2 * j + 1) c.step-first.result c.step-second.result _ refl first x c.step-second.ensures in
          let next : 2 * j + 1 ≡ 2 * (k + (i + 1)) - 1 = omega arith in
          let block = block_of f whole ws j _ _ _ first second c.block-block.ensures in
          let piece = c.xor.ensures ∙ block_covers f whole ws j _ _ block (omega (arith, part, c.SIZE-size.ensures)) in (
            front_more at end old bs new c.loop-i.auto.bytes order within long c.loop-i.invariant.0 (byte_at f ws) (k * f.SIZE) (j * f.SIZE)
                (later_block k i n f.SIZE c.SIZE-size.ensures) here.0 piece,
            second ∙ ap (memory f ws) next,
          ),
    )

pub returns : goal.returns
returns g c ws k pos last words =
    let f = g.F.Filter in
    let i : ℕ = c.loop-i.i in
    let n : ℕ = c.SIZE-size.result in
    let old : List ℕ = c.args.bytes.now in
    let count = c.as_chunks.ensures.front_len ∙ ap (λ t. t / 2) c.requires.0 in
    let four : i ≡ 4 = omega (arith, c.loop-i-test.false, c.loop-i.auto.i-end, count) in
    let whole : i * n ≡ length old = omega (arith, ap (λ t. t * n) four, ap (λ t. 4 * t) c.SIZE-size.ensures, c.requires.1) in
    let here = c.loop-i.invariant.1 ws k pos last words in (
      here.1 ∙ ap (λ t. memory f ws (2 * (k + t) - 1)) four,
      all_pieces (byte_at f ws) (k * f.SIZE) (i * n) old c.loop-i.bytes c.loop-i.auto.bytes (omega arith) here.0,
    )
