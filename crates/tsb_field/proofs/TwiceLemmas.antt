-- The lines of detectors, one after the other.
use Rattle.std.proofs.Common.{◌≡◌, ℕ, ◌+◌, ◌-◌, ◌<◌, ◌≤◌, suc, List, ◌++◌, sym, ap, ◌∙◌, arith, append_assoc, append-nil}
use Rattle.tsb_field_log.specs.declared.inputs.Wire.{Wire}
use Rattle.tsb_text.specs.tsb_plan.Plan.{Plan}
use Rattle.tsb_field.specs.Twice.{twice_line, twice_lines}

-- the line of the next detector, and those after it
lines-more : (wires : List Wire) (plan : Plan) (k most : ℕ) → k < most
    → twice_lines wires plan (k + 1) (most - k) ≡ twice_line wires plan (k + 1) ++ twice_lines wires plan (k + 1 + 1) (most - (k + 1))
unfolding twice_lines
lines-more wires plan k most lt =
    let more : most - k ≡ suc (most - (k + 1)) = omega (arith, lt) in
    let next : suc (k + 1) ≡ k + 1 + 1 = omega arith in
    ap (λ (n : ℕ). twice_lines wires plan (k + 1) n) more ∙ ap (λ (n : ℕ). twice_line wires plan (k + 1) ++ twice_lines wires plan n (most - (k + 1))) next

-- where all detectors were told
pub lines-all : (wires : List Wire) (plan : Plan) (k most : ℕ) (all whole : List ℕ) → most ≤ k → all ++ twice_lines wires plan (k + 1) (most - k) ≡ whole → all ≡ whole
unfolding twice_lines
lines-all wires plan k most all whole le is =
    let none : most - k ≡ 0 = omega (arith, le) in
    sym (append-nil all) ∙ ap (λ (n : ℕ). all ++ twice_lines wires plan (k + 1) n) (sym none) ∙ is

-- after the next detector
pub lines-next : (wires : List Wire) (plan : Plan) (k most : ℕ) (all more whole : List ℕ) → k < most → more ≡ all ++ twice_line wires plan (k + 1) → all ++ twice_lines wires plan (k + 1) (most - k) ≡ whole
    → more ++ twice_lines wires plan (k + 1 + 1) (most - (k + 1)) ≡ whole
lines-next wires plan k most all more whole lt added is =
    ap (λ (ts : List ℕ). ts ++ twice_lines wires plan (k + 1 + 1) (most - (k + 1))) added
    ∙ (append_assoc all (twice_line wires plan (k + 1)) (twice_lines wires plan (k + 1 + 1) (most - (k + 1)))
    ∙ (ap (λ (ts : List ℕ). all ++ ts) (sym (lines-more wires plan k most lt)) ∙ is))
