-- Advice A62, by the pattern that an event selects; and a month that there is not.
use Rattle.std.proofs.Common.{◌≡◌, ◌∙◌, ℕ, ◌-◌, ◌*◌, ◌≤◌, ◌==◌, nat_le, nat_lt, Bool, true, false, not, ◌&&◌, if◌then◌else◌, List, Some, None, refl, ap, arith}
use Rattle.std.proofs.lemmas.Bool.{and_parts, le-ltb, leb-true, ne_eqb}
use Rattle.std.specs.List.{list_any}
use Rattle.tsb_types.specs.Lists.{run_from}
use Rattle.tsb_plan.specs.declared.plan.Plan as memory
use Rattle.tsb_plan.specs.Parts.{cycle}
use Rattle.tsb_plan.specs.Plan.{Plan}
use Rattle.tsb_plan.specs.PlanOf.{plan_of}
use Rattle.tsb_plan.specs.Schedule.{action_of, asked_by, pattern_for, selected_by, time_of}
use Rattle.tsb_review.specs.Schedules.{comes_soon, ends_within_cycle, open_date, pattern_at}
use Rattle.tsb_review.proofs.LoopLemmas.{any-none}

any-off : (a b : Bool) (f : ℕ → Bool) (ns : List ℕ) → list_any f ns ≡ false → (a && (b && list_any f ns)) ≡ false
any-off true true f ns off = off
any-off true false f ns off = refl
any-off false b f ns off = refl

-- nothing is under 0
both-zero : (a b : Bool) (x : ℕ) → (a && (b && nat_lt x 0)) ≡ false
both-zero true true x = le-ltb x 0 (omega arith)
both-zero true false x = refl
both-zero false b x = refl

-- no number but those of patterns has a cycle
no-cycle : (p : memory.Plan) (n : ℕ) → (nat_le 1 n && nat_le n 16) ≡ false → cycle (plan_of p) n ≡ 0
unfolding plan_of
no-cycle p n out = rw out refl

-- an event that selects none ends nothing
pub soon-none : (p : memory.Plan) (d k : ℕ) → (nat_le 1 (pattern_at (plan_of p) d k) && nat_le (pattern_at (plan_of p) d k) 16) ≡ false
    → ends_within_cycle (plan_of p) d k ≡ false
soon-none p d k out =
    let plan : Plan = plan_of p in
    let never : (j : ℕ) → comes_soon plan d k j ≡ false = λ j.
    ap (λ (l : ℕ). not (action_of plan d j == 0) && (nat_lt (time_of plan d k) (time_of plan d j) && nat_lt (600 * (time_of plan d j - time_of plan d k)) l)) (no-cycle p (pattern_at plan d k) out)
    ∙ both-zero (not (action_of plan d j == 0)) (nat_lt (time_of plan d k) (time_of plan d j)) (600 * (time_of plan d j - time_of plan d k)) in
    any-off (not (action_of plan d k == 0)) (not (pattern_at plan d k == 0)) (comes_soon plan d k) (run_from 1 16) (any-none (comes_soon plan d k) never (run_from 1 16))

-- an event that selects one has an action
has-action : (plan : Plan) (a : ℕ) → not (selected_by plan a == 0) ≡ true → not (a == 0) ≡ true
has-action plan a on = go (a == 0) on
  where
    go : (b : Bool) → not ((if b then 0 else pattern_for (asked_by plan a)) == 0) ≡ true → not b ≡ true
    go true selects = selects
    go false selects = refl

pub soon-some : (plan : Plan) (d k : ℕ) → not (pattern_at plan d k == 0) ≡ true → ends_within_cycle plan d k ≡ list_any (comes_soon plan d k) (run_from 1 16)
soon-some plan d k on =
    ap (λ (x : Bool). x && (not (pattern_at plan d k == 0) && list_any (comes_soon plan d k) (run_from 1 16))) (has-action plan (action_of plan d k) on)
    ∙ ap (λ (x : Bool). x && list_any (comes_soon plan d k) (run_from 1 16)) on

-- ## The number of a pattern

-- one that is a pattern's is not 0
pub some-number : (n p : ℕ) → (if nat_le 1 n && nat_le n 16 then Some n else None) ≡ Some p → not (n == 0) ≡ true
some-number n p e = go (nat_le 1 n && nat_le n 16) refl e
  where
    go : (b : Bool) → (nat_le 1 n && nat_le n 16) ≡ b → (if b then Some n else None) ≡ Some p → not (n == 0) ≡ true
    go true is some =
        let from : 1 ≤ n = leb-true 1 n (and_parts (nat_le 1 n) (nat_le n 16) is).0 in
        ap not (ne_eqb n 0 (λ (zero-is : n ≡ 0). absurd (omega (arith, from, zero-is))))
    go false is some = cc

-- and one that is none's is not 1 to 16
pub no-number : (n : ℕ) → (if nat_le 1 n && nat_le n 16 then Some n else None) ≡ None → (nat_le 1 n && nat_le n 16) ≡ false
no-number n e = go (nat_le 1 n && nat_le n 16) e
  where
    go : (b : Bool) → (if b then Some n else None) ≡ None → b ≡ false
    go true none = cc
    go false none = refl

-- ## No month

-- month 0 has no day
pub no-date : (plan : Plan) → open_date plan 0 ≡ None
unfolding run_from
no-date plan = refl
