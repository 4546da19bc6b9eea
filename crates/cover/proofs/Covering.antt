-- Blocks, one after another.
use Rattle.std.proofs.Common.{◌≡◌, ℕ, zero, suc, ◌+◌, ◌-◌, ◌*◌, ◌^◌, ◌%◌, ◌<◌, ◌≤◌, List, [], Ok, Err, Result, ◌++◌, length, get_or, take, drop, sym, ap, ◌∙◌, append-nil, add-one, mul-le-mul_left, mul-one, subst, length-append, length-drop, arith}
use lib.Arith.{digits_div, digits_mod}
use Rattle.std.proofs.lemmas.List.{ext_get_or, take_all, drop_all, drop-take, take_at, drop_at, take-append-drop, length-take-le}
use Rattle.refusal.specs.declared.Refusal.{Refusal}
use Rattle.mother.specs.Generators.{Words, Generator, Reads, Fills, limit}
use Rattle.keystream.specs.declared.Filter.{Ghosts}
use Rattle.keystream.specs.Keystreams.{memory, block_bytes, byte_at}
use Rattle.cover.specs.Lists.{covered, streamed, xored}
use Rattle.follow.specs.Follows.{Follows}
use Rattle.cover.specs.declared.stage.Kept.{Kept}
use Rattle.cover.specs.declared.stage.Kept.TheVariants.{Last}
use Rattle.cover.specs.Blocks.{AtBlock, Between, BlocksCovered, Ends}
use Rattle.cover.proofs.Bytes.{xored_take, xored_streamed, length_streamed, drop-streamed, covered-append, length_covered, none_streamed, none_covered}

get_or-streamed : (K : ℕ → ℕ) (p n i : ℕ) → i < n → get_or (streamed K p n) i 0 ≡ K (p + i)
get_or-streamed K p zero i h = absurd (omega arith)
get_or-streamed K p (suc n) zero h = let e : p ≡ p + 0 = omega arith in ap K e
get_or-streamed K p (suc n) (suc i) h =
    let e : suc p + i ≡ p + suc i = omega arith in
    get_or-streamed K (suc p) n i (omega arith) ∙ ap K e

module _ {F W Y : Type 0} (f : Ghosts F W Y) (whole : (y z : Y) → length (f.bytes y z) ≡ f.SIZE) (ws : Words W) where
  abbrev K : ℕ → ℕ
  K = byte_at f ws

  -- byte r of block i
  byte_in : (i r : ℕ) → r < f.SIZE → K (i * f.SIZE + r) ≡ get_or (block_bytes f ws i) r 0
  byte_in i r h =
      ap (λ j. get_or (block_bytes f ws j) ((i * f.SIZE + r) % f.SIZE) 0) (digits_div i h)
      ∙ ap (λ j. get_or (block_bytes f ws i) j 0) (digits_mod i h)

  size : (i : ℕ) → length (block_bytes f ws i) ≡ f.SIZE
  size i = whole (memory f ws (2 * i)) (memory f ws (2 * i + 1))

  -- the bytes of block i are the keystream from its first position on
  pub block_streamed : (i : ℕ) → block_bytes f ws i ≡ streamed K (i * f.SIZE) f.SIZE
  block_streamed i =
      ext_get_or 0 (block_bytes f ws i) (streamed K (i * f.SIZE) f.SIZE) (size i ∙ sym (length_streamed K (i * f.SIZE) f.SIZE))
      (λ r h.
      let lt : r < f.SIZE = omega (arith, size i) in
      sym (byte_in i r lt) ∙ sym (get_or-streamed K (i * f.SIZE) f.SIZE r lt))

  -- block i in the first bytes of an array covers no more bytes than it has
  pub block_covers : (i : ℕ) (b bs : List ℕ) → take f.SIZE b ≡ block_bytes f ws i → length bs ≤ f.SIZE
      → xored bs b ≡ covered K (i * f.SIZE) bs
  block_covers i b bs e h =
      sym (xored_take bs b f.SIZE h)
      ∙ ap (xored bs) (e ∙ block_streamed i)
      ∙ xored_streamed K (i * f.SIZE) f.SIZE bs
      ∙ all (i * f.SIZE) bs h
    where
      all : (p : ℕ) (bs : List ℕ) → length bs ≤ f.SIZE → covered K p (take f.SIZE bs) ++ drop f.SIZE bs ≡ covered K p bs
      all p bs h =
          ap (λ t. covered K p (take f.SIZE bs) ++ t) (drop_all f.SIZE bs h)
          ∙ append-nil (covered K p (take f.SIZE bs))
          ∙ ap (covered K p) (take_all f.SIZE bs h)

  -- one word more
  pub step_memory : (n k : ℕ) (y z : Y) (w : W) → n + 1 ≡ k → y ≡ memory f ws n → w ≡ ws.word n → z ≡ f.step y w → z ≡ memory f ws k
  step_memory n k y z w e m x s =
      s ∙ ap (λ v. f.step v w) m ∙ ap (f.step (memory f ws n)) x ∙ ap (memory f ws) (sym (add-one n) ∙ e)

  -- a block by its two memories
  pub block_of : (i : ℕ) (y z : Y) (b : List ℕ) → y ≡ memory f ws (2 * i) → z ≡ memory f ws (2 * i + 1) → take f.SIZE b ≡ f.bytes y z
      → take f.SIZE b ≡ block_bytes f ws i
  block_of i y z b p q e = e ∙ ap (λ v. f.bytes v z) p ∙ ap (f.bytes (memory f ws (2 * i))) q

  -- what is left of block i after c bytes
  pub rest_streamed : (i c : ℕ) (b : List ℕ) → take f.SIZE b ≡ block_bytes f ws i → c ≤ f.SIZE
      → take (f.SIZE - c) (drop c b) ≡ streamed K (i * f.SIZE + c) (f.SIZE - c)
  rest_streamed i c b e h =
      let n : c + (f.SIZE - c) ≡ f.SIZE = omega arith in
      sym (drop-take c (f.SIZE - c) b)
      ∙ ap (λ t. drop c (take t b)) n
      ∙ ap (drop c) (e ∙ block_streamed i)
      ∙ drop-streamed K (i * f.SIZE) f.SIZE c

-- where a cover stands that keeps the last memory of a block
module _ {M F W Y : Type 0} (m : Generator M W) (f : Ghosts F W Y) (s : M) (y : Y) (ws : Words W) where
  -- after the first c bytes of block i, at position p
  pub between_after : (i c p : ℕ) (rest : List ℕ) → AtBlock m f s y ws (i + 1) → p ≡ i * f.SIZE + c → 0 < c → c ≤ f.SIZE
      → rest ≡ streamed (byte_at f ws) p (f.SIZE - c) → Between m f s (Last y) rest ws p
  between_after i c p rest at here pos le e =
      let K = byte_at f ws in
      let long : length rest ≡ f.SIZE - c = ap length e ∙ length_streamed K p (f.SIZE - c) in
      record {
        made = i + 1;
        sum = omega (arith, long, here, more i f.SIZE);
        few = omega (arith, long);
        follows = at;
        unused = e ∙ ap (streamed K p) (sym long);
      }
    where
      more : (i n : ℕ) → (i + 1) * n ≡ i * n + n
      more i n = omega arith

  -- where block i comes next, and nothing is left of the one before
  pub between_blocks : (i p : ℕ) (rest : List ℕ) → 1 ≤ f.SIZE → AtBlock m f s y ws i → p ≡ i * f.SIZE → rest ≡ []
      → Between m f s (Last y) rest ws p
  between_blocks i p rest some at here e =
      let none : length rest ≡ 0 = ap length e in
      record {
        made = i;
        sum = omega (arith, none, here);
        few = omega (arith, none);
        follows = at;
        unused = none_streamed (byte_at f ws) p rest none;
      }

-- the words of a block are there
pub few_blocks : (i n : ℕ) → 1 ≤ n → i * n ≤ 2 ^ 32 → 2 * (i + 1) ≤ limit
few_blocks i n h le = let k : i * 1 ≤ i * n = mul-le-mul_left i h in omega (arith, mul-one i)

-- the words of a group, and the memory after them
module _ {M F W Y : Type 0} (m : Generator M W) (f : Ghosts F W Y) where
  pub group_words : (s s' : M) (y : Y) (ws : Words W) (i : ℕ) (before words : List W) → AtBlock m f s y ws i → length before ≡ 8 → length words ≡ 8
      → Fills m s before (Ok tt) s' words
      → Reads ws.word (2 * i - 1) words × ((y' : Y) → y' ≡ memory f ws (2 * (i + 4) - 1) → AtBlock m f s' y' ws (i + 4)) × (m.given s' ≡ m.given s)
  group_words s s' y ws i before words at eight₀ eight fills =
      let after = at.1 in
      let moved = fills after.sound in
      let to : 2 * i - 1 + 8 ≡ 2 * (i + 4) - 1 = omega (arith, at.0) in (
        λ k d lt. moved.2 k d lt ∙ ap (λ w. w (m.place s + k)) after.word ∙ ap (λ p. ws.word (p + k)) after.place,
        λ y' e. (
          omega arith,
          record {
            sound = moved.0;
            word = moved.3.word ∙ after.word;
            place = moved.3.place ∙ ap (λ p. p + length before) after.place ∙ ap (λ n. 2 * i - 1 + n) eight₀ ∙ to;
            memory = e;
          },
        ),
        moved.3.given,
      )

  pub group_granted : (s s' : M) (y : Y) (ws : Words W) (i : ℕ) (before words : List W) (e : Refusal) → AtBlock m f s y ws i → length before ≡ 8
      → 2 * (i + 4) ≤ limit → Fills m s before (Err e) s' words → ⊥
  group_granted s s' y ws i before words e at eight low fills =
      let after = at.1 in let moved = fills after.sound in omega (arith, moved.1, after.place, at.0)

-- one part of a buffer after another
module _ {M F W Y : Type 0} (m : Generator M W) (f : Ghosts F W Y) (some : 1 ≤ f.SIZE) where
  part_join : (K : ℕ → ℕ) (p q : ℕ) (old a b a' b' : List ℕ) → old ≡ a ++ b → q ≡ p + length a → a' ≡ covered K p a → b' ≡ covered K q b
      → a' ++ b' ≡ covered K p old
  part_join K p q old a b a' b' whole here front back =
      ap (λ t. t ++ b') front
      ∙ ap (λ t. covered K p a ++ t) (back ∙ ap (λ n. covered K n b) here)
      ∙ sym (covered-append K p a b)
      ∙ ap (covered K p) (sym whole)

  spread : (i k n : ℕ) → (i + k) * n ≡ i * n + k * n
  spread i k n = omega arith

  pub blocks_join : (s s' s'' : M) (y y' y'' : Y) (old a b a' b' : List ℕ) (n k t : ℕ) (r : Result (Unit {0}) Refusal)
      → old ≡ a ++ b → length a ≡ n * f.SIZE → t ≡ n + k
      → BlocksCovered m f n s y a (Ok tt) s' y' a' → BlocksCovered m f k s' y' b r s'' y'' b'
      → BlocksCovered m f t s y old r s'' y'' (a' ++ b')
  blocks_join s s' s'' y y' y'' old a b a' b' n k t (Err e) whole long sum first second ws i at low =
      let one = first ws i at (omega arith) in
      second ws (i + n) one.1 (omega arith)
  blocks_join s s' s'' y y' y'' old a b a' b' n k t (Ok _) whole long sum first second ws i at low =
      let one = first ws i at (omega arith) in
      let two = second ws (i + n) one.1 (omega arith) in
      let here : (i + n) * f.SIZE ≡ i * f.SIZE + length a = omega (arith, spread i n f.SIZE) in
      let last : i + n + k ≡ i + t = omega arith in (
        part_join (byte_at f ws) (i * f.SIZE) ((i + n) * f.SIZE) old a b a' b' whole here one.0 two.0,
        subst (AtBlock m f s'' y'' ws) last two.1,
        two.2 ∙ one.2,
      )

  -- n blocks from block i on are there
  pub low_blocks : (i n : ℕ) → (i + n) * f.SIZE ≤ 2 ^ 32 → 2 * (i + n) ≤ limit
  low_blocks i n h = omega (arith, few_blocks (i + n) f.SIZE some h)

  pub ends_join : (s s' s'' : M) (y y' y'' : Y) (old a b a' b' : List ℕ) (n : ℕ) (r : Result (List ℕ) Refusal)
      → old ≡ a ++ b → length a ≡ n * f.SIZE
      → BlocksCovered m f n s y a (Ok tt) s' y' a' → Ends m f s' y' b r s'' y'' b'
      → Ends m f s y old r s'' y'' (a' ++ b')
  ends_join s s' s'' y y' y'' old a b a' b' n (Err e) whole long first second ws i at low =
      let long' : length old ≡ length a + length b = ap length whole ∙ length-append a b in
      let here : (i + n) * f.SIZE ≡ i * f.SIZE + length a = omega (arith, spread i n f.SIZE) in
      let one = first ws i at (low_blocks i n (omega arith)) in
      second ws (i + n) one.1 (omega arith)
  ends_join s s' s'' y y' y'' old a b a' b' n (Ok rest) whole long first second ws i at low =
      let long' : length old ≡ length a + length b = ap length whole ∙ length-append a b in
      let here : (i + n) * f.SIZE ≡ i * f.SIZE + length a = omega (arith, spread i n f.SIZE) in
      let one = first ws i at (low_blocks i n (omega arith)) in
      let two = second ws (i + n) one.1 (omega arith) in
      let end : (i + n) * f.SIZE + length b ≡ i * f.SIZE + length old = omega arith in (
        part_join (byte_at f ws) (i * f.SIZE) ((i + n) * f.SIZE) old a b a' b' whole here one.0 two.0,
        subst (Between m f s'' (Last y'') rest ws) end two.1,
        two.2 ∙ one.2,
      )

  -- whole blocks and no more
  pub ends_alone : (s s' : M) (y y' : Y) (old a b a' rest : List ℕ) (n : ℕ) → old ≡ a ++ b → length a ≡ n * f.SIZE → length b ≡ 0 → rest ≡ []
      → BlocksCovered m f n s y a (Ok tt) s' y' a' → Ends m f s y old (Ok rest) s' y' (a' ++ b)
  ends_alone s s' y y' old a b a' rest n whole long none left first ws i at low =
      let long' : length old ≡ length a + length b = ap length whole ∙ length-append a b in
      let here : (i + n) * f.SIZE ≡ i * f.SIZE + length a = omega (arith, spread i n f.SIZE) in
      let end : i * f.SIZE + length old ≡ (i + n) * f.SIZE = omega arith in
      let one = first ws i at (low_blocks i n (omega arith)) in (
        part_join (byte_at f ws) (i * f.SIZE) ((i + n) * f.SIZE) old a b a' b whole here one.0 (none_covered (byte_at f ws) ((i + n) * f.SIZE) b none),
        between_blocks m f s' y' ws (i + n) (i * f.SIZE + length old) rest some one.1 end left,
        one.2,
      )

  -- the first block of all, or a part of it, and no more
  pub starts_alone : (s : M) (y : Y) (ws : Words W) (old a b a' rest : List ℕ) → old ≡ a ++ b → length b ≡ 0 → 0 < length old → length a ≤ f.SIZE
      → a' ≡ covered (byte_at f ws) 0 a → AtBlock m f s y ws 1 → rest ≡ streamed (byte_at f ws) (length a) (f.SIZE - length a)
      → (a' ++ b ≡ covered (byte_at f ws) 0 old) × Between m f s (Last y) rest ws (length old)
  starts_alone s y ws old a b a' rest whole none some' few first at left =
      let long : length old ≡ length a + length b = ap length whole ∙ length-append a b in
      let all : length a ≡ length old = omega arith in
      let here : length old ≡ 0 * f.SIZE + length a = omega arith in
      let start : length a ≡ 0 + length a = omega arith in (
        part_join (byte_at f ws) 0 (length a) old a b a' b whole start first (none_covered (byte_at f ws) (length a) b none),
        between_after m f s y ws 0 (length a) (length old) rest at here (omega arith) few
            (left ∙ ap (λ p. streamed (byte_at f ws) p (f.SIZE - length a)) all),
      )

  -- the first block of all, and what comes after it
  pub starts_join : (s s' : M) (y y' : Y) (ws : Words W) (old a b a' b' rest : List ℕ) → old ≡ a ++ b → length a ≡ f.SIZE → length old ≤ 2 ^ 32
      → a' ≡ covered (byte_at f ws) 0 a → AtBlock m f s y ws 1 → Ends m f s y b (Ok rest) s' y' b'
      → (a' ++ b' ≡ covered (byte_at f ws) 0 old) × Between m f s' (Last y') rest ws (length old) × (m.given s' ≡ m.given s)
  starts_join s s' y y' ws old a b a' b' rest whole one low first at second =
      let long : length old ≡ length a + length b = ap length whole ∙ length-append a b in
      let start : 1 * f.SIZE ≡ 0 + length a = omega arith in
      let end : 1 * f.SIZE + length b ≡ length old = omega arith in
      let next = second ws 1 at (omega arith) in (
        part_join (byte_at f ws) 0 (1 * f.SIZE) old a b a' b' whole start first next.0,
        subst (Between m f s' (Last y') rest ws) end next.1,
        next.2,
      )

-- the rest of a block, used
module _ {M F W Y : Type 0} (m : Generator M W) (f : Ghosts F W Y) (ws : Words W) where
  pub within_rest : (s : M) (y : Kept Y) (p : ℕ) (rest rest' old new : List ℕ) → Between m f s y rest ws p → length old ≤ length rest
      → rest' ≡ drop (length old) rest → new ≡ xored old rest
      → (new ≡ covered (byte_at f ws) p old) × Between m f s y rest' ws (p + length old)
  within_rest s y p rest rest' old new at le left is =
      let K = byte_at f ws in
      let n : ℕ = length rest in
      let long : length rest' ≡ n - length old = ap length left ∙ length-drop (length old) rest in
      let all : covered K p (take n old) ++ drop n old ≡ covered K p old =
      ap (λ t. covered K p (take n old) ++ t) (drop_all n old le) ∙ append-nil (covered K p (take n old)) ∙ ap (covered K p) (take_all n old le) in (
        is ∙ ap (xored old) at.unused ∙ xored_streamed K p n old ∙ all,
        record {
          made = at.made;
          sum = omega (arith, long, at.sum);
          few = omega (arith, long, at.few);
          follows = at.follows;
          unused = left ∙ ap (drop (length old)) at.unused ∙ drop-streamed K p n (length old) ∙ ap (streamed K (p + length old)) (sym long);
        },
      )

  pub past_rest : (s s' : M) (y y' : Kept Y) (p used : ℕ) (rest rest' old mid head tail back : List ℕ) → (at : Between m f s y rest ws p)
      → used ≡ length rest → used ≤ length old → mid ≡ xored old rest
      → head ≡ take used mid → tail ≡ drop used mid → back ≡ covered (byte_at f ws) (at.made * f.SIZE) tail
      → Between m f s' y' rest' ws (at.made * f.SIZE + length tail)
      → (head ++ back ≡ covered (byte_at f ws) p old) × Between m f s' y' rest' ws (p + length old)
  past_rest s s' y y' p used rest rest' old mid head tail back at all le is cut cut' covers ends =
      let K = byte_at f ws in
      let front : List ℕ = covered K p (take used old) in
      let start : at.made * f.SIZE ≡ p + used = omega (arith, at.sum) in
      let first : mid ≡ front ++ drop used old =
      is ∙ ap (xored old) (at.unused ∙ ap (streamed K p) (sym all)) ∙ xored_streamed K p used old in
      let long : length front ≡ used = length_covered K p (take used old) ∙ length-take-le used old le in
      let head_is : head ≡ front = cut ∙ ap (take used) first ∙ take_at front (drop used old) used long in
      let tail_is : tail ≡ drop used old = cut' ∙ ap (drop used) first ∙ drop_at front (drop used old) used long in
      let end : at.made * f.SIZE + length tail ≡ p + length old = omega (arith, start, ap length tail_is ∙ length-drop used old) in
      let here : at.made * f.SIZE ≡ p + length (take used old) = omega (arith, start, length-take-le used old le) in (
        ap (λ t. t ++ back) head_is
            ∙ ap (λ t. front ++ t) (covers ∙ ap (covered K (at.made * f.SIZE)) tail_is ∙ ap (λ n. covered K n (drop used old)) here)
            ∙ sym (covered-append K p (take used old) (drop used old))
            ∙ ap (covered K p) (take-append-drop used old),
        subst (Between m f s' y' rest' ws) end ends,
      )
