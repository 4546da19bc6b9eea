-- A memory that follows a generator, word by word.
use Rattle.std.proofs.Common.{◌≡◌, ℕ, zero, suc, ◌+◌, ◌-◌, ◌<◌, ◌≤◌, Ok, Err, sym, refl, ap, ◌∙◌, subst, add-zero, add-one, arith}
use Rattle.refusal.specs.declared.Refusal.{Refusal}
use Rattle.mother.specs.Generators.{Words, Generator, Next, Back, limit}
use Rattle.keystream.specs.declared.Filter.{Ghosts}
use Rattle.keystream.specs.Keystreams.{memory}
use Rattle.keystream.specs.Undoing.{TakenBack}
use Rattle.follow.specs.Follows.{Follows, Begins, GoesOn, GoesBack}

module _ {M F W Y : Type 0} (m : Generator M W) (f : Ghosts F W Y) where
  -- the same at another name of the place
  pub follows_at : (s : M) (y : Y) (ws : Words W) (n k : ℕ) → n ≡ k → Follows m f s y ws n → Follows m f s y ws k
  follows_at s y ws n k e h = subst (Follows m f s y ws) e h

  pub word_on : (s s' : M) (y z : Y) (w : W) → Next m s (Ok w) s' → z ≡ f.step y w → GoesOn m f s y 1 (Ok z) s'
  word_on s s' y z w next e ws n fo =
      let moved = next fo.sound in
      let w-is : w ≡ ws.word n = moved.2 ∙ ap (λ g. g (m.place s)) fo.word ∙ ap ws.word fo.place in
      let z-is : z ≡ memory f ws (suc n) = e ∙ ap (λ v. f.step v w) fo.memory ∙ ap (f.step (memory f ws n)) w-is in (
        omega (arith, moved.1, fo.place),
        record {
          sound = moved.0;
          word = moved.3.word ∙ fo.word;
          place = moved.3.place ∙ ap (λ k. k + 1) fo.place;
          memory = z-is ∙ ap (memory f ws) (sym (add-one n));
        },
        moved.3.given,
      )

  module _ (held : Y → Type 0) (stays : (y : Y) (x : W) → held (f.step y x)) where
    -- each memory is one that the program can hold
    memory_held : (ws : Words W) (n : ℕ) → Begins m f held ws → held (memory f ws n)
    memory_held ws zero h = h
    memory_held ws (suc n) h = stays (memory f ws n) (ws.word n)

    pub word_back : (s s' : M) (y z : Y) (w : W) → Back m s (Ok w) s' → TakenBack held f.step y w z
        → GoesBack m f held s y 1 (Ok z) s'
    word_back s s' y z w back undone ws n begins fo =
        let moved = back fo.sound in
        let some : 1 ≤ n = omega (arith, moved.1, fo.place) in
        let w-is : w ≡ ws.word (n - 1) =
        moved.2 ∙ ap (λ g. g (m.place s - 1)) fo.word ∙ ap (λ k. ws.word (k - 1)) fo.place in
        let same : suc (n - 1) ≡ n = omega arith in
        let y-is : f.step (memory f ws (n - 1)) w ≡ y =
        ap (f.step (memory f ws (n - 1))) w-is ∙ ap (memory f ws) same ∙ sym fo.memory in (
          some,
          record {
            sound = moved.0;
            word = moved.3.word ∙ fo.word;
            place = moved.3.place ∙ ap (λ k. k - 1) fo.place;
            memory = undone (memory f ws (n - 1)) (memory_held ws (n - 1) begins) y-is;
          },
          moved.3.given,
        )

  -- i words from the state s and the memory y, on and back
  abbrev pub OnBy : M → Y → ℕ → M → Y → Type 0
  OnBy s y i s' y' =
      (ws : Words W) (n : ℕ) → Follows m f s y ws n → Follows m f s' y' ws (n + i) × (m.given s' ≡ m.given s)

  abbrev pub BackBy : (Y → Type 0) → M → Y → ℕ → M → Y → Type 0
  BackBy held s y i s' y' =
      (ws : Words W) (n : ℕ) → Begins m f held ws → Follows m f s y ws n → i ≤ n
      → Follows m f s' y' ws (n - i) × (m.given s' ≡ m.given s)

  pub on_none : (s : M) (y : Y) → OnBy s y 0 s y
  on_none s y ws n fo = (follows_at s y ws n (n + 0) (sym (add-zero n)) fo, refl)

  pub back_none : (held : Y → Type 0) (s : M) (y : Y) → BackBy held s y 0 s y
  back_none held s y ws n begins fo le = (follows_at s y ws n (n - 0) (omega arith) fo, refl)

  pub on_more : (s t u : M) (y z v : Y) (i : ℕ) → OnBy s y i t z → GoesOn m f t z 1 (Ok v) u → OnBy s y (i + 1) u v
  on_more s t u y z v i so_far next ws n fo =
      let before = so_far ws n fo in
      let after = next ws (n + i) before.0 in
      (follows_at u v ws (n + i + 1) (n + (i + 1)) (omega arith) after.1, after.2 ∙ before.1)

  pub back_more : (held : Y → Type 0) (s t u : M) (y z v : Y) (i : ℕ) → BackBy held s y i t z → GoesBack m f held t z 1 (Ok v) u
      → BackBy held s y (i + 1) u v
  back_more held s t u y z v i so_far next ws n begins fo le =
      let before = so_far ws n begins fo (omega arith) in
      let after = next ws (n - i) begins before.0 in
      (follows_at u v ws (n - i - 1) (n - (i + 1)) (omega arith) after.1, after.2 ∙ before.1)

  -- within the list no step is refused
  pub on_granted : (s t u : M) (y z : Y) (i k : ℕ) (e : Refusal) → i < k → OnBy s y i t z → GoesOn m f t z 1 (Err e) u
      → (ws : Words W) (n : ℕ) → Follows m f s y ws n → n + k ≤ limit → ⊥
  on_granted s t u y z i k e lt so_far next ws n fo low = omega (arith, (next ws (n + i) (so_far ws n fo).0).0)

  pub back_granted : (held : Y → Type 0) (s t u : M) (y z : Y) (i k : ℕ) (e : Refusal) → i < k → BackBy held s y i t z
      → GoesBack m f held t z 1 (Err e) u
      → (ws : Words W) (n : ℕ) → Begins m f held ws → Follows m f s y ws n → k ≤ n → ⊥
  back_granted held s t u y z i k e lt so_far next ws n begins fo le =
      omega (arith, (next ws (n - i) begins (so_far ws n begins fo (omega arith)).0).0)

  -- all k of them
  pub on_all : (s t : M) (y z : Y) (i k : ℕ) → i ≡ k → OnBy s y i t z → (ws : Words W) (n : ℕ) → Follows m f s y ws n
      → n + k ≤ limit → (n + k ≤ limit) × Follows m f t z ws (n + k) × (m.given t ≡ m.given s)
  on_all s t y z i k e so_far ws n fo low =
      let all = so_far ws n fo in (low, follows_at t z ws (n + i) (n + k) (ap (λ j. n + j) e) all.0, all.1)

  pub back_all : (held : Y → Type 0) (s t : M) (y z : Y) (i k : ℕ) → i ≡ k → BackBy held s y i t z → (ws : Words W) (n : ℕ) → Begins m f held ws
      → Follows m f s y ws n → k ≤ n → (k ≤ n) × Follows m f t z ws (n - k) × (m.given t ≡ m.given s)
  back_all held s t y z i k e so_far ws n begins fo le =
      let all = so_far ws n begins fo (omega arith) in
      (le, follows_at t z ws (n - i) (n - k) (ap (λ j. n - j) e) all.0, all.1)
