-- The moves of the booter.
use Rattle.std.proofs.Common.{◌≡◌, ℕ, ◌+◌, ◌-◌, ◌<◌, sym, ap, ◌∙◌, subst, lit<}
use Rattle.row.specs.declared.Row.{Row}
use Rattle.booter.specs.declared.register.Register.{Register}
use Rattle.booter.specs.Registers.{State, kth, onward, backward, behind, o_from, Sound}
use Rattle.booter.specs.Calls.{held, Stepped, Unstepped, Sane, start_from, word_from, WordAt, WordBefore}
use Rattle.booter.proofs.Turns.{sound_onward, sound_backward}
use Rattle.booter.proofs.Rows.{behind_onward, behind_backward, word_here, word_before}

-- register r' at place n' is sound and stands for the words that r at place n stands for
pub record Same (r : Register) (n : ℕ) (r' : Register) (n' : ℕ) : Type 0 where
  pub sound : Sane r'
  pub start : start_from r' n' ≡ start_from r n
  pub word : word_from r' n' ≡ word_from r n

-- it is so where the steps between undone come to the same
same : (r : Register) (n : ℕ) (r' : Register) (n' : ℕ) (e : State) → r'.height ≡ r.height → held r' ≡ e
    → Sound r.height e → behind r.height n' e ≡ behind r.height n (held r) → Same r n r' n'
unfolding Sane start_from word_from
same r n r' n' e eh em g b =
    let H = r.height in
    let P : ℕ → State → Type 0 =
    λ z t. Sound z t × (kth z (behind z n' t) (z - 1) ≡ start_from r n) × ((λ i. o_from z (behind z n' t) i) ≡ word_from r n) in
    let at_once : P H e = (g, ap (λ t. kth H t (H - 1)) b, ap (λ t i. o_from H t i) b) in
    let got = subst (λ (z : ℕ). P z (held r')) (sym eh) (subst (P H) (sym em) at_once) in
    record { sound = got.0; start = got.1; word = got.2 }

pub word_at : (r r' : Register) (pair : Row × Row) → Stepped r pair r' → WordAt r pair.0 r'
unfolding Sane word_from
word_at r r' pair s =
    let H = r.height in
    let on : Sane r → (n : ℕ) → Same r n r' (n + 1) = λ g n.
    same r n r' (n + 1) (onward H (held r)) s.height s.moved (sound_onward H (held r) g) (behind_onward H n (held r) g) in
    record {
      sound = λ g. (on g 0).sound;
      word = λ g n. s.first ∙ word_here H n (held r) g;
      start_stays = λ g n. (on g n).start;
      word_stays = λ g n. (on g n).word;
    }

pub word_before_it : (r r' : Register) (pair : Row × Row) → Unstepped r pair r' → WordBefore r pair.0 r'
unfolding Sane word_from
word_before_it r r' pair s =
    let H = r.height in
    let off : Sane r → (n : ℕ) → 0 < n → Same r n r' (n - 1) = λ g n p.
    same r n r' (n - 1) (backward H (held r)) s.height s.moved (sound_backward H (held r) g) (behind_backward H n (held r) p) in
    record {
      sound = λ g. (off g 1 (lit< tt)).sound;
      word = λ g n p. s.first ∙ word_before H n (held r) g p;
      start_stays = λ g n p. (off g n p).start;
      word_stays = λ g n p. (off g n p).word;
    }
