-- The equations of the recursion.
use Rattle.std.proofs.Common.{◌≡◌, ℕ, zero, suc, ◌+◌, ◌<◌, sym, refl, ap, ◌∙◌, add-zero, add_comm, zero-add, arith}
use Rattle.std.proofs.lemmas.Bool.{cond-true, cond-false, lt-ltb, le-ltb}
use Rattle.row.specs.declared.Row.{Row}
use Rattle.row.specs.Rows.{row, zeros, step_row, mix_row, ◌>>₆₄◌}
use Rattle.handover.specs.Recursion.{mask, seed, window, x, FirstRow, FirstRows, LaterRows, WordsEarly, WordsLate}

pub window_shifts : (w : ℕ → Row) (j k : ℕ) → k < 155 → window w (suc j) k ≡ window w j (suc k)
unfolding window
window_shifts w j k h = cond-true _ _ _ (lt-ltb k 155 h)

window_ends : (w : ℕ → Row) (j : ℕ) → window w (suc j) 155 ≡ step_row mask (window w j 155) (window w j 108) (window w j 0)
unfolding window
window_ends w j = refl

-- the k-th of a window is x_(j+k)
pub window_is : (w : ℕ → Row) (j k : ℕ) → k < 156 → window w j k ≡ x w (j + k)
unfolding x
window_is w j zero h = ap (λ n. window w n 0) (sym (add-zero j))
window_is w j (suc k) h =
    sym (window_shifts w j k (omega arith)) ∙ window_is w (suc j) k (omega arith)
    ∙ ap (λ n. window w n 0) (omega arith)

pub first_row : FirstRow
unfolding x window
first_row w = refl

-- the rows below 156 are those recorded
pub row_seeded : (w : ℕ → Row) (i : ℕ) → i < 156 → x w i ≡ seed w i
unfolding window
row_seeded w i h = ap (x w) (sym (zero-add i)) ∙ sym (window_is w 0 i h)

pub first_rows : FirstRows
first_rows w zero p h = absurd (omega arith)
first_rows w (suc i) p h = row_seeded w (suc i) h

-- by its three rows
pub recursion : (w : ℕ → Row) (j : ℕ) → x w (j + 156) ≡ step_row mask (x w (j + 155)) (x w (j + 108)) (x w (j + 0))
recursion w j =
    let e : j + 156 ≡ suc j + 155 = omega arith in
    let a = window_is w j 155 (omega arith) in
    let b = window_is w j 108 (omega arith) in
    let d = window_is w j 0 (omega arith) in
    let f = window_is w (suc j) 155 (omega arith) in
    let l = window_ends w j in
    ap (x w) e ∙ sym f ∙ l ∙ cc

-- the same with the subscripts on the right
by_step : (w : ℕ → Row) (j : ℕ) → x w (156 + j) ≡ step_row mask (x w (155 + j)) (x w (108 + j)) (x w j)
by_step w j =
    let e : 156 + j ≡ j + 156 = add_comm 156 j in
    let a : 155 + j ≡ j + 155 = add_comm 155 j in
    let b : 108 + j ≡ j + 108 = add_comm 108 j in
    let z : j + 0 ≡ j = add-zero j in
    let r = recursion w j in
    cc

pub later_rows : LaterRows
unfolding step_row mix_row
later_rows w j = by_step w j

pub words_early : WordsEarly
words_early ws i l = cond-true _ _ _ (lt-ltb i 156 l)

pub words_late : WordsLate
words_late ws i = cond-false _ _ _ (le-ltb (156 + i) 156 (omega arith)) ∙ ap (x ws.word) (omega arith)

worked : step_row mask zeros (row 0 0 0 8) zeros ≡ row 0 8 0 1
unfolding step_row mix_row ◌>>₆₄◌
worked = refl

-- a worked value: of the rows that x_156 is made of, all are zero but x_108
abbrev pub WorkedStep : Type 0
WorkedStep = (w : ℕ → Row) → x w 155 ≡ zeros → x w 108 ≡ row 0 0 0 8 → x w 0 ≡ zeros → x w 156 ≡ row 0 8 0 1

pub worked_step : WorkedStep
worked_step w a b d =
    let r = by_step w 0 in
    let v = worked in
    cc
