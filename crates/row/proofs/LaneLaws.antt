-- The inverse of an odd lane, and the odd quotient.
use Rattle.std.proofs.Common.{◌≡◌, ℕ, zero, suc, ◌+◌, ◌-◌, ◌*◌, ◌/◌, ◌%◌, ◌^◌, ◌<◌, sym, refl, ap, ◌∙◌, mod-lt, mul_comm, arith, lit<}
use native.Mathlib.Nat.{mod-add-mod}
use lib.Bits.{bit_xor, bit_or, xor_mod, or_step}
use Rattle.row.specs.Lanes.{plus, minus, times, ◌⊗◌, odd_factor, nearer, guess, inverse, ◌⊘◌}
use Rattle.row.proofs.Modular.{mul_mod_l, mul_mod_r, mod-mod-mul, newton, undone, sum_undone}

pub nearer_is : (c K a i : ℕ) → 2 ^ 32 ≡ c * (K * K) → 1 < K * K → (a * i) % K ≡ 1 → (a * nearer a i) % (K * K) ≡ 1
unfolding nearer
nearer_is c K a i e big one = newton (2 ^ 32) c K a i e (lit< tt) big one

-- r * ((3 r) ^ 2) modulo 16 is 1 at each odd r below 16
abbrev small : ℕ → ℕ
small r = (r * bit_xor ((3 * r) % 16) 2) % 16

small_odd : (k : ℕ) → k < 8 → small (2 * k + 1) ≡ 1
small_odd zero _ = refl
small_odd (suc zero) _ = refl
small_odd (suc (suc zero)) _ = refl
small_odd (suc (suc (suc zero))) _ = refl
small_odd (suc (suc (suc (suc zero)))) _ = refl
small_odd (suc (suc (suc (suc (suc zero))))) _ = refl
small_odd (suc (suc (suc (suc (suc (suc zero)))))) _ = refl
small_odd (suc (suc (suc (suc (suc (suc (suc zero))))))) _ = refl
small_odd (suc (suc (suc (suc (suc (suc (suc (suc k)))))))) h = absurd (omega arith)

guess_is : (a : ℕ) → a % 2 ≡ 1 → (a * guess a) % 16 ≡ 1
unfolding guess
guess_is a odd =
    let g : guess a % 16 ≡ bit_xor ((3 * (a % 16)) % 16) 2 =
    xor_mod ((3 * a) % 2 ^ 32) 2 4 ∙ ap (λ t. bit_xor t 2) (mod-mod-mul (3 * a) (2 ^ 28) 16 ∙ sym (mul_mod_r 3 a 16)) in
    let r : a % 16 ≡ 2 * (a % 16 / 2) + 1 = omega arith in
    let lt : a % 16 / 2 < 8 = omega arith in
    sym (mul_mod_r a (guess a) 16)
    ∙ sym (mul_mod_l a (guess a % 16) 16)
    ∙ ap (λ t. (a % 16 * t) % 16) g
    ∙ ap small r
    ∙ small_odd (a % 16 / 2) lt

pub inverse_is : (a : ℕ) → a % 2 ≡ 1 → (a * inverse a) % 2 ^ 32 ≡ 1
unfolding inverse
inverse_is a odd =
    nearer_is 1 65536 a _ refl (lit< tt)
    (nearer_is 65536 256 a _ refl (lit< tt)
    (nearer_is 16777216 16 a _ refl (lit< tt) (guess_is a odd)))

pub quotient_undoes : (y x : ℕ) → y < 2 ^ 32 → x < 2 ^ 32 → ((y ⊗ x) ⊘ x) ≡ y
unfolding ◌⊘◌ ◌⊗◌
quotient_undoes y x hy hx =
    let a : ℕ = plus (times 2 x) 1 in
    let odd : a % 2 ≡ 1 = omega arith in
    let e : 2 * y * x + y + x ≡ y * (2 * x + 1) + x = omega arith in
    let ea : a ≡ (2 * x + 1) % 2 ^ 32 = omega arith in
    let d : minus ((2 * y * x + y + x) % 2 ^ 32) x ≡ (y * a) % 2 ^ 32 =
    ap (λ t. minus (t % 2 ^ 32) x) e
    ∙ sum_undone (2 ^ 32) (y * (2 * x + 1)) x (omega arith)
    ∙ sym (mul_mod_r y (2 * x + 1) (2 ^ 32))
    ∙ ap (λ t. (y * t) % 2 ^ 32) (sym ea) in
    ap (λ t. (t * inverse a) % 2 ^ 32) d ∙ undone (2 ^ 32) a (inverse a) y (inverse_is a odd) hy

pub or_one_odd : (x : ℕ) → bit_or x 1 % 2 ≡ 1
or_one_odd x = omega (arith, or_step x 1)

-- a product by an odd factor and one by its inverse undo one another
pub factor_undone : (y x : ℕ) → y < 2 ^ 32 → times (times y (odd_factor x)) (inverse (odd_factor x)) ≡ y
factor_undone y x h = undone (2 ^ 32) (odd_factor x) (inverse (odd_factor x)) y (inverse_is (odd_factor x) (or_one_odd x)) h

pub factor_onto : (z x : ℕ) → z < 2 ^ 32 → times (times z (inverse (odd_factor x))) (odd_factor x) ≡ z
factor_onto z x h =
    undone (2 ^ 32) (inverse (odd_factor x)) (odd_factor x) z
    (ap (λ t. t % 2 ^ 32) (mul_comm (inverse (odd_factor x)) (odd_factor x)) ∙ inverse_is (odd_factor x) (or_one_odd x)) h

pub inverse_undoes : (y x : ℕ) → y < 2 ^ 32 → x < 2 ^ 32 → times (times y (bit_or x 1)) (inverse (bit_or x 1)) ≡ y
inverse_undoes y x hy hx = factor_undone y x hy

pub quotient_is : (z x : ℕ) → z < 2 ^ 32 → x < 2 ^ 32 → ((z ⊘ x) ⊗ x) ≡ z
unfolding ◌⊘◌ ◌⊗◌
quotient_is z x hz hx =
    let M : ℕ = 2 ^ 32 in
    let a : ℕ = plus (times 2 x) 1 in
    let j : ℕ = inverse a in
    let w : ℕ = minus z x in
    let q : ℕ = (w * j) % M in
    let odd : a % 2 ≡ 1 = omega arith in
    let one : (j * a) % M ≡ 1 = ap (λ t. t % M) (mul_comm j a) ∙ inverse_is a odd in
    let ea : a ≡ (2 * x + 1) % M = omega arith in
    let back : (q * (2 * x + 1)) % M ≡ w =
    sym (mul_mod_r q (2 * x + 1) M) ∙ ap (λ t. (q * t) % M) (sym ea) ∙ undone M j a w one (mod-lt (z + (M - x)) (lit< tt)) in
    let e : 2 * q * x + q + x ≡ q * (2 * x + 1) + x = multiplied q x in
    let f : z + (M - x) + x ≡ z + M = omega arith in
    ap (λ t. t % M) e
    ∙ sym (mod-add-mod (q * (2 * x + 1)) M x)
    ∙ ap (λ t. (t + x) % M) back
    ∙ mod-add-mod (z + (M - x)) M x
    ∙ ap (λ t. t % M) f
    ∙ again z hz
  where
    multiplied : (q x : ℕ) → 2 * q * x + q + x ≡ q * (2 * x + 1) + x
    multiplied q x = omega arith

    again : (z : ℕ) → z < 2 ^ 32 → (z + 2 ^ 32) % 2 ^ 32 ≡ z
    again z h = omega arith

pub oprod_injective : (y y' x : ℕ) → y < 2 ^ 32 → y' < 2 ^ 32 → x < 2 ^ 32 → (y ⊗ x) ≡ (y' ⊗ x) → y ≡ y'
oprod_injective y y' x h h' k e = sym (quotient_undoes y x h k) ∙ ap (λ z. z ⊘ x) e ∙ quotient_undoes y' x h' k
