-- Blocks of a keystream over buffers, and where a cover stands between two calls. Everywhere ws has the words of the
-- generator, K is the keystream byte at a position and block i begins at position i * SIZE.
use Rattle.std.specs.Prelude.{◌≡◌, ℕ, ◌+◌, ◌-◌, ◌*◌, ◌/◌, ◌^◌, ◌<◌, ◌≤◌, List, length, take, MatchResult, Result}
use Rattle.refusal.specs.declared.Refusal.{Refusal}
use Rattle.mother.specs.Generators.{Words, Generator, Reads, limit}
use Rattle.keystream.specs.declared.Filter.{Ghosts}
use Rattle.keystream.specs.Keystreams.{memory, block_bytes, byte_at}
use Rattle.follow.specs.Follows.{Follows}
use Rattle.cover.specs.declared.stage.Kept.{Kept}
use Rattle.cover.specs.declared.stage.Kept.TheVariants.{First, Last}
use Rattle.cover.specs.declared.stage.Stage.{Stage}
use Rattle.cover.specs.Lists.{covered, streamed}

-- a buffer of whole pieces of n bytes
abbrev pub IsWhole : ℕ → List ℕ → Type 0
IsWhole n bytes = length bytes / n * n ≡ length bytes

-- block i and the three after it, with the words after the block before: y is the last memory of that, and y' that of the
-- last of the four
abbrev pub GroupCovered : {F W Y : Type 0} → Ghosts F W Y → Y → List W → List ℕ → Y → List ℕ → Type 0
GroupCovered {W = W} f y words old y' new =
    (ws : Words W) (i : ℕ) → 1 ≤ i → y ≡ memory f ws (2 * i - 1) → Reads ws.word (2 * i - 1) words
    → (y' ≡ memory f ws (2 * (i + 4) - 1)) × (new ≡ covered (byte_at f ws) (i * f.SIZE) old)

-- some of the first bytes of block i cover a buffer, and the rest of them is left
abbrev pub PartCovered : {F W Y : Type 0} → Ghosts F W Y → List ℕ → List ℕ → List ℕ → List ℕ → Type 0
PartCovered {W = W} f block old rest new =
    (ws : Words W) (i : ℕ) → take f.SIZE block ≡ block_bytes f ws i
    → (new ≡ covered (byte_at f ws) (i * f.SIZE) old)
    × (rest ≡ streamed (byte_at f ws) (i * f.SIZE + length old) (f.SIZE - length old))

module _ {M F W Y : Type 0} (m : Generator M W) (f : Ghosts F W Y) where
  -- block i comes next: y is the last memory of the block before it, and no word of block i was asked for
  abbrev pub AtBlock : M → Y → Words W → ℕ → Type 0
  AtBlock s y ws i = (1 ≤ i) × Follows m f s y ws (2 * i - 1)

  -- block i, from its first memory, as the first bytes of an array, and its last memory, with the words of the block and no
  -- more
  abbrev pub MadeLast : M → Y → Result (List ℕ × Y) Refusal → M → Type 0
  MadeLast s y r s' =
      (ws : Words W) (i : ℕ) → Follows m f s y ws (2 * i) → 2 * i + 1 ≤ limit
      → MatchResult r (λ b. (take f.SIZE b.0 ≡ block_bytes f ws i) × AtBlock s' b.1 ws (i + 1)
      × (m.given s' ≡ m.given s)) (λ _. ⊥)

  -- block i from the last memory of the block before it
  abbrev pub Made : M → Y → Result (List ℕ) Refusal → M → Y → Type 0
  Made s y r s' y' =
      (ws : Words W) (i : ℕ) → AtBlock s y ws i → 2 * (i + 1) ≤ limit
      → MatchResult r (λ b. (take f.SIZE b ≡ block_bytes f ws i) × AtBlock s' y' ws (i + 1)
      × (m.given s' ≡ m.given s)) (λ _. ⊥)

  -- n whole blocks from block i on are covered
  abbrev pub BlocksCovered : ℕ → M → Y → List ℕ → Result (Unit {0}) Refusal → M → Y → List ℕ → Type 0
  BlocksCovered n s y old r s' y' new =
      (ws : Words W) (i : ℕ) → AtBlock s y ws i → 2 * (i + n) ≤ limit
      → MatchResult r (λ _. (new ≡ covered (byte_at f ws) (i * f.SIZE) old) × AtBlock s' y' ws (i + n)
      × (m.given s' ≡ m.given s)) (λ _. ⊥)

  -- after `made` blocks: these took the words before 2 * made - 1, and no more were asked for
  abbrev pub KeptAt : M → Kept Y → Words W → ℕ → Type 0
  KeptAt s (First y) ws made = (made ≡ 0) × Follows m f s y ws 0
  KeptAt s (Last y) ws made = AtBlock s y ws made

  -- at position p, after `made` blocks, with the bytes of the last that are not used yet
  pub record Between (s : M) (kept : Kept Y) (rest : List ℕ) (ws : Words W) (p : ℕ) : Type 0 where
    pub made : ℕ
    pub sum : p + length rest ≡ made * f.SIZE
    pub few : length rest < f.SIZE
    pub follows : KeptAt s kept ws made
    pub unused : rest ≡ streamed (byte_at f ws) p (length rest)

  -- the first bytes of all are covered, up to a block: the rest of that block is left, and its last memory
  abbrev pub FirstCovered : M → Y → List ℕ → Result (List ℕ × Y) Refusal → M → List ℕ → Type 0
  FirstCovered s y old r s' new =
      (ws : Words W) → Follows m f s y ws 0
      → MatchResult r (λ b. (new ≡ covered (byte_at f ws) 0 old) × AtBlock s' b.1 ws 1
      × (b.0 ≡ streamed (byte_at f ws) (length old) (f.SIZE - length old)) × (m.given s' ≡ m.given s)) (λ _. ⊥)

  -- the same of any number of bytes
  abbrev pub StartCovered : M → Y → List ℕ → Result (List ℕ × Y) Refusal → M → List ℕ → Type 0
  StartCovered s y old r s' new =
      (ws : Words W) → Follows m f s y ws 0 → length old ≤ 2 ^ 32
      → MatchResult r (λ b. (new ≡ covered (byte_at f ws) 0 old) × Between s' (Last b.1) b.0 ws (length old)
      × (m.given s' ≡ m.given s)) (λ _. ⊥)

  -- all of a buffer is covered from the first byte of block i on: from the last memory of the block before to that of the
  -- last block, or from the memory that is kept
  abbrev pub Ends : M → Y → List ℕ → Result (List ℕ) Refusal → M → Y → List ℕ → Type 0
  Ends s y old r s' y' new =
      (ws : Words W) (i : ℕ) → AtBlock s y ws i → i * f.SIZE + length old ≤ 2 ^ 32
      → MatchResult r (λ rest. (new ≡ covered (byte_at f ws) (i * f.SIZE) old)
      × Between s' (Last y') rest ws (i * f.SIZE + length old) × (m.given s' ≡ m.given s)) (λ _. ⊥)

  abbrev pub EndsKept : M → Kept Y → List ℕ → Result (List ℕ) Refusal → M → Kept Y → List ℕ → Type 0
  EndsKept s kept old r s' kept' new =
      (ws : Words W) (i : ℕ) → KeptAt s kept ws i → i * f.SIZE + length old ≤ 2 ^ 32
      → MatchResult r (λ rest. (new ≡ covered (byte_at f ws) (i * f.SIZE) old)
      × Between s' kept' rest ws (i * f.SIZE + length old) × (m.given s' ≡ m.given s)) (λ _. ⊥)

  -- a stage stands at position p
  pub record At (s : M) (st : Stage Y) (ws : Words W) (p : ℕ) : Type 0 where
    pub position : st.position ≡ p
    pub between : Between s st.memory st.rest ws p

  -- a whole call: all of a buffer is covered from position p on
  abbrev pub Followed : M → Stage Y → List ℕ → Result (Unit {0}) Refusal → M → Stage Y → List ℕ → Type 0
  Followed s st old r s' st' new =
      (ws : Words W) (p : ℕ) → At s st ws p → p + length old ≤ 2 ^ 32
      → MatchResult r (λ _. (new ≡ covered (byte_at f ws) p old) × At s' st' ws (p + length old)
      × (m.given s' ≡ m.given s)) (λ _. ⊥)
