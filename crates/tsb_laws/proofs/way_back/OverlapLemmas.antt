-- Overlaps are in the range of their cells after a tick, and after other inputs.
use Rattle.std.proofs.Common.{zero, suc, ◌≡◌, ℕ, ◌+◌, ◌<◌, ◌≤◌, ◌==◌, nat_le, nat_lt, Bool, true, false, not, ◌&&◌, ◌||◌, if◌then◌else◌, Option, Some, None, refl, ap, arith, ◌∙◌}
use Rattle.std.proofs.lemmas.Bool.Decides.{nat_tests}
use Rattle.tsb_step.specs.tsb_cells.Timer.{has_reached}
use Rattle.tsb_step.proofs.tsb_cells.TimerLemmas.{IsWithin-advanced}
use Rattle.tsb_step.specs.tsb_types.declared.refusal.Refusal.{Refusal}
use Rattle.tsb_step.specs.tsb_types.declared.refusal.Refusal.TheVariants.{OutOfRange}
use Rattle.tsb_step.specs.tsb_types.Intervals.{is_green}
use Rattle.tsb_step.specs.tsb_types.Lists.{first}
use Rattle.tsb_step.specs.tsb_types.Sets.{names}
use Rattle.tsb_step.proofs.tsb_types.FirstLemmas.{first-within}
use Rattle.tsb_step.proofs.tsb_types.SetLemmas.{names-above}
use Rattle.tsb_step.specs.tsb_plan.declared.object.Object.TheVariants.{OverlapIncludedPhases, OverlapTrailGreen, OverlapType}
use Rattle.tsb_step.specs.tsb_plan.Plan.{Plan, Counts, phases, yellow_change}
use Rattle.tsb_step.specs.tsb_plan.Parts.{is_arrow, is_included, is_modifier, is_timed, trails, trail_green, trail_yellow, trail_red}
use Rattle.tsb_step.specs.tsb_heads.Overlaps.{is_kept_green}
use Rattle.tsb_step.specs.tsb_overlap.declared.parts.OverlapInterval.{OverlapInterval}
use Rattle.tsb_step.specs.tsb_overlap.declared.parts.OverlapInterval.TheVariants.{Red, Green, TrailGreen, Flashing, Yellow, RedClear}
use Rattle.tsb_step.specs.tsb_overlap.Cells.{is_overlap}
use Rattle.tsb_step.specs.tsb_overlap.Laws.{IsOverlapIn, IsStateBy}
use Rattle.tsb_step.specs.tsb_overlap.Overlap.{Overlap, Given, standing, begun, yellow_of, at_power_up, as_read, run_on, arrow_yellow_on, arrow_by, trail_by, may_be_kept, left_alone, trail_settled, turn_of, may_flash, ended_flash, not_flashing, flashing_or, unturned, arrow_settled, settled, next}
use Rattle.tsb_overlap.proofs.OwnLemmas.{untimed-stays}
use Rattle.tsb_step.specs.Step.{omit_refusal}
use Rattle.tsb_laws.specs.Runs.{IsHeld}

-- ## One overlap

standing-in : (now : ℕ) (i : OverlapInterval) → IsOverlapIn now (standing i)
standing-in now i = record { timer = tt; phase = tt }

begun-in : (now : ℕ) (i : OverlapInterval) → IsOverlapIn now (begun i)
begun-in now i = record { timer = omega arith; phase = tt }

yellow-in : (now p : ℕ) → (1 ≤ p) × (p ≤ 16) → IsOverlapIn now (yellow_of p)
yellow-in now p at = record { timer = omega arith; phase = at }

if-in : (now : ℕ) (b : Bool) (x y : Overlap) → IsOverlapIn now x → IsOverlapIn now y → IsOverlapIn now (if b then x else y)
if-in now true x y is other = is
if-in now false x y is other = other

read-in : (now : ℕ) (x : Overlap) → IsOverlapIn now x → IsOverlapIn (now + 1) (as_read x)
read-in now x is = record { timer = IsWithin-advanced now x.timer is.timer; phase = is.phase }

module _ (plan : Plan) (given : Given) (o now : ℕ) (count : plan.phase_count ≤ 16) (x : Overlap) (is : IsOverlapIn now x) where
  yellow-on : (p : Option ℕ) → IsOverlapIn now (arrow_yellow_on plan x p)
  yellow-on None = is
  yellow-on (Some p) = if-in now (has_reached x.timer (yellow_change plan p)) (standing Red) x (standing-in now Red) is

  arrow-on : (i : OverlapInterval) → IsOverlapIn now (arrow_by plan x i)
  arrow-on Yellow = yellow-on x.phase
  arrow-on Red = is
  arrow-on Green = is
  arrow-on TrailGreen = is
  arrow-on Flashing = is
  arrow-on RedClear = is

  trail-on : (i : OverlapInterval) → IsOverlapIn now (trail_by plan o given.preempted x i)
  trail-on TrailGreen = if-in now (given.preempted || has_reached x.timer (trail_green plan o)) (begun Yellow) x (begun-in now Yellow) is
  trail-on Yellow =
      if-in now (has_reached x.timer (trail_yellow plan o)) (if trail_red plan o == 0 then standing Red else begun RedClear) x
      (if-in now (trail_red plan o == 0) (standing Red) (begun RedClear) (standing-in now Red) (begun-in now RedClear)) is
  trail-on RedClear = if-in now (has_reached x.timer (trail_red plan o)) (standing Red) x (standing-in now Red) is
  trail-on Red = is
  trail-on Green = is
  trail-on Flashing = is

  run-in : IsOverlapIn now (run_on plan given.preempted o x)
  unfolding run_on
  run-in =
      if-in now (is_arrow plan o) (arrow_by plan x x.interval) (if trails plan o then trail_by plan o given.preempted x x.interval else x) (arrow-on x.interval)
      (if-in now (trails plan o) (trail_by plan o given.preempted x x.interval) x (trail-on x.interval) is)

  -- a phase of the plan is 1 to 16
  listed-in : (test : ℕ → Bool) (p : ℕ) → first test (phases plan) ≡ Some p → (1 ≤ p) × (p ≤ 16)
  listed-in test p e = let at = first-within test 1 plan.phase_count p e in (at.0, (let below = at.1 in omega (arith, below, count)))

  left-in : (i : OverlapInterval) → IsOverlapIn now (left_alone given x i)
  left-in Green = if-in now given.preempted (begun Yellow) (begun TrailGreen) (begun-in now Yellow) (begun-in now TrailGreen)
  left-in Red = is
  left-in TrailGreen = is
  left-in Flashing = is
  left-in Yellow = is
  left-in RedClear = is

  kept-in : IsOverlapIn now (trail_settled plan given o x)
  kept-in = if-in now (may_be_kept x.interval && is_kept_green plan given.shown o) (standing Green) (left_alone given x x.interval) (standing-in now Green) (left-in x.interval)

  ended-in : (t : ℕ) → (1 ≤ t) × (t ≤ 16) → (test : ℕ → Bool) (found : Option ℕ) → first test (phases plan) ≡ found → IsOverlapIn now (ended_flash t found)
  ended-in t at test None e = yellow-in now t at
  ended-in t at test (Some p) e = yellow-in now p (listed-in test p e)

  not_flashing-in : (t : ℕ) → (1 ≤ t) × (t ≤ 16) → (i : OverlapInterval) → IsOverlapIn now (not_flashing plan given o t i)
  not_flashing-in t at Flashing =
      ended-in t at (λ p. is_included plan o p && given.was_green p) (first (λ p. is_included plan o p && given.was_green p) (phases plan)) refl
  not_flashing-in t at Red = standing-in now Red
  not_flashing-in t at Green = standing-in now Red
  not_flashing-in t at TrailGreen = standing-in now Red
  not_flashing-in t at Yellow = standing-in now Red
  not_flashing-in t at RedClear = standing-in now Red

  flashing-in : (t : ℕ) → (1 ≤ t) × (t ≤ 16) → IsOverlapIn now (flashing_or plan given o t x)
  flashing-in t at = if-in now (may_flash plan given o t) (standing Flashing) (not_flashing plan given o t x.interval) (standing-in now Flashing) (not_flashing-in t at x.interval)

  unturned-in : (t : ℕ) → (1 ≤ t) × (t ≤ 16) → (i : OverlapInterval) → IsOverlapIn now (unturned plan given o t x i)
  unturned-in t at Yellow = is
  unturned-in t at Green = yellow-in now t at
  unturned-in t at Red = flashing-in t at
  unturned-in t at TrailGreen = flashing-in t at
  unturned-in t at Flashing = flashing-in t at
  unturned-in t at RedClear = flashing-in t at

  turned-in : (turn : Option ℕ) → turn_of plan o ≡ turn → IsOverlapIn now (arrow_settled plan given o x turn)
  turned-in None e = is
  turned-in (Some t) e =
      let at = listed-in (is_modifier plan o) t e in
      if-in now (is_green (given.shown.interval t)) (standing Green) (unturned plan given o t x x.interval) (standing-in now Green) (unturned-in t at x.interval)

  settled-in : IsOverlapIn now (settled plan given o x)
  unfolding settled
  settled-in =
      if-in now (is_arrow plan o) (arrow_settled plan given o x (turn_of plan o)) (if trails plan o then trail_settled plan given o x else x) (turned-in (turn_of plan o) refl)
      (if-in now (trails plan o) (trail_settled plan given o x) x kept-in is)

-- ## All overlaps

-- what is no overlap includes no phase, and is not timed
untimed-out : (plan : Plan) → IsHeld plan → (o : ℕ) → is_overlap o ≡ false → is_timed plan o ≡ false
untimed-out plan held o out =
    let none : plan.value OverlapIncludedPhases o ≡ 0 =
    held.consistent.placed OverlapIncludedPhases o (ap (λ (c : Counts). nat_le 1 o && nat_le o c.overlaps) held.counts ∙ out) in
    ap (λ (n : ℕ). (plan.value OverlapType o == 2 && not (n == 0)) || (not (plan.value OverlapTrailGreen o == 0) && not (n == 0))) none
    ∙ neither (plan.value OverlapType o == 2) (not (plan.value OverlapTrailGreen o == 0))
  where
    neither : (a b : Bool) → ((a && false) || (b && false)) ≡ false
    neither true true = refl
    neither true false = refl
    neither false true = refl
    neither false false = refl

pub overlaps-after : (plan : Plan) (given : Given) (f : ℕ → Overlap) (omitted : ℕ → Bool) (now : ℕ) → IsHeld plan → IsStateBy now f omitted →
    IsStateBy (now + 1) (next plan given f) omitted
unfolding next
overlaps-after plan given f omitted now held was = record {
  each = λ o from to.
      let count : plan.phase_count ≤ 16 = rw held.phases (omega arith) in
      let read : IsOverlapIn (now + 1) (as_read (f o)) = read-in now (f o) (was.each o from to) in
      settled-in plan given o (now + 1) count (run_on plan given.preempted o (as_read (f o))) (run-in plan given o (now + 1) count (as_read (f o)) read);
  others = λ o out. untimed-stays plan given f o (untimed-out plan held o out) ∙ ap as_read (was.others o out);
  few = was.few;
}

pub overlaps-begin : (now : ℕ) → IsStateBy now (λ o. at_power_up) (λ o. false)
overlaps-begin now = record {
  each = λ o from to. record { timer = tt; phase = tt };
  others = λ o out. refl;
  few = λ o out. refl;
}

-- a list that is taken names overlaps alone
pub overlaps-omitted : (now : ℕ) (f : ℕ → Overlap) (omitted : ℕ → Bool) (list : ℕ) → omit_refusal list ≡ None → IsStateBy now f omitted →
    IsStateBy now f (names list)
overlaps-omitted now f omitted list allowed was = record { each = was.each; others = was.others; few = few }
  where
    lowest : (b : Bool) (r : Refusal) → nat_lt list 65536 ≡ b → (if b then None else Some r) ≡ None → list < 65536
    lowest true r e h = grind (arith, nat_tests, e)
    lowest false r e h = absurd cc

    below : list < 65536
    below = lowest (nat_lt list 65536) OutOfRange refl allowed

    few : (o : ℕ) → is_overlap o ≡ false → names list o ≡ false
    few zero out = refl
    few (suc n) out = names-above 16 (suc n) list below (grind (arith, nat_tests, out))
