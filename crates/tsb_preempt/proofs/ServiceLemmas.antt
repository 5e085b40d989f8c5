-- The service in its cells, and facts of all preempts.
use Rattle.std.proofs.Common.{zero, suc, ◌≡◌, ◌≢◌, ℕ, ◌+◌, ◌<◌, ◌≤◌, Bool, true, false, not, ◌&&◌, List, slice_index, Option, Some, None, refl, sym, ◌∙◌, ap, subst, arith, inl, inr}
use Rattle.std.proofs.lemmas.Bool.{cases_eq}
use Rattle.tsb_cells.specs.Timer.{timer_at, has_reached}
use Rattle.tsb_types.specs.declared.stage.Stage.{Stage}
use Rattle.tsb_types.specs.declared.stage.Stage.TheVariants.{Track, Dwell, Exit}
use Rattle.tsb_types.specs.Lists.{run_from, first}
use Rattle.tsb_types.specs.declared.limits.TheConstants.{PREEMPTS}
use Rattle.tsb_objects.specs.declared.checked.Checked.{Checked}
use Rattle.tsb_objects.specs.Checked.{checked_plan}
use Rattle.tsb_objects.specs.tsb_plan.declared.plan.Plan as memory
use Rattle.tsb_objects.specs.tsb_plan.Plan.{Plan}
use Rattle.tsb_objects.specs.tsb_plan.PlanOf.{plan_of}
use Rattle.tsb_objects.specs.tsb_plan.Parts.{preempt_delay}
use Rattle.tsb_preempt.specs.declared.serving.Serving.{Serving}
use Rattle.tsb_preempt.specs.Cells.{stage_in, stage_cell, service_in}
use Rattle.tsb_preempt.specs.Service.{has_dwell}
use Rattle.tsb_preempt.specs.Preempts.{may_begin}
use Rattle.tsb_preempt.specs.Rows.{serving_of, IsServingBy, IsStored, requests_by}
use Rattle.tsb_preempt.proofs.ResetLemmas.{is_preempt-from}

-- ## The first of a run

-- two tests that are the same of a run find the same
pub first-agreed : (f g : ℕ → Bool) (a n : ℕ) → ((m : ℕ) → a ≤ m → m < a + n → f m ≡ g m) → first f (run_from a n) ≡ first g (run_from a n)
unfolding run_from
first-agreed f g a zero same = refl
first-agreed f g a (suc n) same =
    rw (same a (omega arith) (omega arith), first-agreed f g (a + 1) n (λ m from below. same m (omega (arith, from)) (omega (arith, below)))) refl

-- the least that passes is found
pub first-at : (test : ℕ → Bool) (a n k : ℕ) → a ≤ k → k < a + n → test k ≡ true → ((m : ℕ) → a ≤ m → m < k → test m ≡ false) →
    first test (run_from a n) ≡ Some k
unfolding run_from
first-at test a zero k from below on least = absurd (omega (arith, from, below))
first-at test a (suc n) k from below on least =
    elim (cases_eq a k) [
      | inl same ↦ rw (ap test same ∙ on) (ap Some same)
      | inr other ↦
          rw (least a (omega arith) (omega (arith, from, other)))
          (first-at test (a + 1) n k (omega (arith, from, other)) (omega (arith, below)) on (λ m low high. least m (omega (arith, low)) high))
    ]

-- where none of a run passes there is none
pub first-never : (test : ℕ → Bool) (a n : ℕ) → ((m : ℕ) → a ≤ m → m < a + n → test m ≡ false) → first test (run_from a n) ≡ None
unfolding run_from
first-never test a zero never = refl
first-never test a (suc n) never =
    rw (never a (omega arith) (omega arith)) (first-never test (a + 1) n (λ m from below. never m (omega (arith, from)) (omega (arith, below))))

-- ## How many there are

-- a plan in memory has all preempts
pub all-preempts : (plan : memory.Plan) → (plan_of plan).counts.preempts ≡ PREEMPTS
unfolding plan_of
all-preempts plan = refl

pub few-preempts : (plan : memory.Plan) → (plan_of plan).counts.preempts ≤ PREEMPTS
few-preempts plan = let all : (plan_of plan).counts.preempts ≡ PREEMPTS = all-preempts plan in omega (arith, all)

pub few-checked : (plan : Checked) → (checked_plan plan).counts.preempts ≤ PREEMPTS
unfolding checked_plan
few-checked plan = few-preempts plan.plan

-- ## Requests

-- one asks whose input is on, and which is not spent
waits-same : (m d r on s : Bool) → ((on && not s) && (m && (d && ((on && not s) && (r && not false))))) ≡ false → (m && (d && (on && (r && not s)))) ≡ false
waits-same false d r on s h = refl
waits-same true false r on s h = refl
waits-same true true r false s h = refl
waits-same true true r true false h = h
waits-same true true true true true h = refl
waits-same true true false true true h = refl

pub waits : (now : ℕ) (plan : Plan) (cells : List ℕ) (was : Option Serving) (n : ℕ) (on spent asks : Bool) → asks ≡ (on && not spent) →
    (asks && (may_begin (serving_of now was) n && requests_by now plan n asks false (slice_index cells (1 + n)))) ≡ false →
    (may_begin (serving_of now was) n && requests_by now plan n on spent (slice_index cells (1 + n))) ≡ false
waits now plan cells was n on spent asks e h =
    waits-same (may_begin (serving_of now was) n) (has_dwell plan n) (has_reached (timer_at now (slice_index cells (1 + n))) (preempt_delay plan n)) on spent
    (ap (λ (a : Bool). a && (may_begin (serving_of now was) n && requests_by now plan n a false (slice_index cells (1 + n)))) (sym e) ∙ h)

-- ## The service in its cells

pub stage-stored : (stage : Stage) → stage_in (stage_cell stage) ≡ stage
stage-stored Track = refl
stage-stored Dwell = refl
stage-stored Exit = refl

pub service-stored : (now : ℕ) (cells : List ℕ) (s : Option Serving) → IsStored cells s → IsServingBy now s → service_in now cells ≡ serving_of now s
unfolding service_in
service-stored now cells None stored by = rw (stored.preempt) refl
service-stored now cells (Some s) stored by =
    rw (stored.preempt, is_preempt-from s.preempt by.from by.within, stored.stage, stage-stored s.stage, stored.timer, stored.stage_timer) refl

stage-range : (stage : Stage) → stage_cell stage ≤ 2
stage-range Track = omega arith
stage-range Dwell = omega arith
stage-range Exit = omega arith

not-track : (stage : Stage) → 1 ≤ stage_cell stage → stage ≢ Track
not-track Track h e = omega (arith, h)
not-track Dwell h e = cc
not-track Exit h e = cc

-- the cells of service
pub record IsServiceRow (now : ℕ) (cells : List ℕ) : Type 0 where
  pub preempt : slice_index cells (2 + PREEMPTS) ≤ PREEMPTS
  pub stage : slice_index cells (3 + PREEMPTS) ≤ 2
  pub timer : slice_index cells (4 + PREEMPTS) ≤ now + 1
  pub stage_timer : slice_index cells (5 + PREEMPTS) ≤ now + 1
  pub serving : 1 ≤ slice_index cells (2 + PREEMPTS) → 1 ≤ slice_index cells (4 + PREEMPTS)
  pub no_stage : slice_index cells (2 + PREEMPTS) ≡ 0 → slice_index cells (3 + PREEMPTS) ≡ 0
  pub no_timer : slice_index cells (2 + PREEMPTS) ≡ 0 → slice_index cells (4 + PREEMPTS) ≡ 0
  pub no_stage_timer : slice_index cells (2 + PREEMPTS) ≡ 0 → slice_index cells (5 + PREEMPTS) ≡ 0
  pub outside_track : 1 ≤ slice_index cells (3 + PREEMPTS) → slice_index cells (5 + PREEMPTS) ≡ 0

pub service-row : (now : ℕ) (cells : List ℕ) (s : Option Serving) → IsStored cells s → IsServingBy now s → IsServiceRow now cells
service-row now cells None stored by = record {
  preempt = omega (arith, stored.preempt);
  stage = omega (arith, stored.stage);
  timer = omega (arith, stored.timer);
  stage_timer = omega (arith, stored.stage_timer);
  serving = λ h. absurd (omega (arith, stored.preempt, h));
  no_stage = λ h. stored.stage;
  no_timer = λ h. stored.timer;
  no_stage_timer = λ h. stored.stage_timer;
  outside_track = λ h. stored.stage_timer;
}
service-row now cells (Some s) stored by = record {
  preempt = omega (arith, stored.preempt, by.within);
  stage = let h : stage_cell s.stage ≤ 2 = stage-range s.stage in subst (λ (x : ℕ). x ≤ 2) (sym stored.stage) h;
  timer = omega (arith, stored.timer, by.timer);
  stage_timer = omega (arith, stored.stage_timer, by.stage_timer);
  serving = λ h. omega (arith, stored.timer, by.began);
  no_stage = λ h. absurd (omega (arith, stored.preempt, h, by.from));
  no_timer = λ h. absurd (omega (arith, stored.preempt, h, by.from));
  no_stage_timer = λ h. absurd (omega (arith, stored.preempt, h, by.from));
  outside_track = λ h. stored.stage_timer ∙ by.outside_track (not-track s.stage (subst (λ (x : ℕ). 1 ≤ x) stored.stage h));
}
