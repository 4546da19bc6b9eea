-- A trace with filler in it is found again.
use Rattle.std.proofs.Common.{◌≡◌, ℕ, ◌-◌, ◌≤◌, List, ◌++◌, length, take, drop, replicate, sym, ap, ◌∙◌, append_assoc, arith, length-append}
use lib.ListN.{length-replicate}
use Rattle.std.proofs.lemmas.List.{take_at, drop_at, take-append-drop, take_rest, length-take-le}
use Rattle.demo.specs.Records.{laid_out, trace_of}

-- what comes after the first and the second part
past_both : (p q r : List ℕ) → length p ≡ 37 → length q ≡ 1183 → drop 1220 (p ++ (q ++ r)) ≡ r
past_both p q r hp hq =
    let long : length (p ++ q) ≡ 1220 = simp length-append (omega arith) in
    ap (drop 1220) (sym (append_assoc p q r)) ∙ drop_at (p ++ q) r 1220 long

pub trace_found : (trace : List ℕ) → 37 ≤ length trace → trace_of (laid_out trace) ≡ trace
trace_found trace h =
    let long : length (take 37 trace) ≡ 37 = length-take-le 37 trace h in
    ap (λ t. t ++ drop 1220 (laid_out trace)) (take_at (take 37 trace) _ 37 long)
    ∙ ap (λ t. take 37 trace ++ t)
    (past_both (take 37 trace) (replicate 1183 0) (drop 37 trace) long (length-replicate {A = ℕ} 1183 0))
    ∙ take-append-drop 37 trace

-- the first part, the filler and the rest, one after another
pub laid : (before after one two three trace : List ℕ) → before ≡ take 37 trace → after ≡ drop 37 trace → one ≡ before
    → two ≡ one ++ replicate 1183 0 → three ≡ two ++ after → three ≡ laid_out trace
laid before after one two three trace b a p q r =
    r
    ∙ ap (λ t. t ++ after) (q ∙ ap (λ t. t ++ replicate 1183 0) (p ∙ b))
    ∙ ap (λ t. (take 37 trace ++ replicate 1183 0) ++ t) a
    ∙ append_assoc (take 37 trace) (replicate 1183 0) (drop 37 trace)

-- and the trace out of a slice of all
pub taken : (slice all one two : List ℕ) → slice ≡ all → one ≡ take 37 slice
    → two ≡ one ++ take (length slice - 1220) (drop 1220 slice) → two ≡ trace_of all
taken slice all one two e p r =
    r
    ∙ ap (λ t. t ++ take (length slice - 1220) (drop 1220 slice)) p
    ∙ ap (λ t. take 37 slice ++ t) (take_rest slice 1220)
    ∙ ap trace_of e
