-- In each tick of its late span a phase is forced off, and so what nothing else keeps is ready. Proves
-- `late_greens_are_ready`.
use Rattle.std.proofs.Common.{◌≡◌, ℕ, ◌+◌, ◌≤◌, ◌||◌, true, false, List, ◌∷◌, ◌++◌, Option, Some, is_some, refl, ap, ◌∙◌, arith}
use Rattle.std.proofs.lemmas.Bool.{or_left, or_right}
use Rattle.tsb_step.specs.tsb_types.declared.row.Row.{Row}
use Rattle.tsb_step.specs.tsb_types.Intervals.{in_service}
use Rattle.tsb_step.specs.tsb_types.Sets.{is_phase}
use Rattle.tsb_step.specs.tsb_plan.Parts.{cycle}
use Rattle.tsb_step.specs.tsb_plan.Plan.{Plan, walk, pedestrian_clear}
use Rattle.tsb_step.specs.tsb_plan.Running.{is_coordinated_now}
use Rattle.tsb_step.specs.tsb_coord.Coordinated.{counter, local_in, force_off, agree, late_end, is_from_to, counted_on, is_forced_late, is_permitted, forces_off, asks_force_off}
use Rattle.tsb_step.specs.tsb_coord.Correction.{counted_tick}
use Rattle.tsb_step.specs.declared.inputs.Input.{Input}
use Rattle.tsb_step.specs.declared.inputs.Input.TheVariants.{Tick}
use Rattle.tsb_step.specs.State.{State}
use Rattle.tsb_step.specs.Tick.{forced, ready}
use Rattle.tsb_step.specs.Runs.{replay, AreTaken}
use Rattle.tsb_step.specs.Laws.{IsConsistent}
use Rattle.tsb_step.specs.Good.{IsGood}
use Rattle.tsb_step.proofs.GoodLemmas.{good_run}
use Rattle.tsb_laws.specs.Stretches.{IsUntripped}
use Rattle.tsb_laws.specs.ServedCalls.{longest_initial}
use Rattle.tsb_laws.specs.CoordinatedGreens.{HasGoneOn, is_pressed_in_pattern}
use Rattle.tsb_laws.specs.LateGreens.{IsInLateSpan, IsLateGreen}
use Rattle.tsb_laws.proofs.safety.DueLemmas.{count_run}
use Rattle.tsb_laws.proofs.operation.green.PressedRunLemmas.{is_one}
use Rattle.tsb_laws.proofs.operation.pattern.InStepLemmas.{forced_by_counter}
use Rattle.tsb_laws.proofs.operation.pattern.CoordinatedForceLemmas.{ready_at_once}
use Rattle.tsb_laws.proofs.operation.pattern.CoordinatedRunLemmas.{forced_may_end}

-- where late force-off of p ends
ends_late : (s : State) (p : ℕ) (it : IsInLateSpan s p) → late_end s.plan (Some it.number) p ≡ Some it.limit
ends_late s p it =
    let other : is_coordinated_now s.plan (Some it.number) p ≡ false = rw it.runs at it.other in
    rw (it.late, other, it.yields) it.until

-- it is forced off where the local counter is in this span
late_by : (s : State) (p : ℕ) (it : IsInLateSpan s p) (t : ℕ) →
    is_from_to (cycle s.plan it.number) (counter s.plan it.number t) it.instant (counted_on (cycle s.plan it.number) it.instant it.limit) ≡ true →
    asks_force_off s.plan t s.pattern p ≡ true
late_by s p it t within =
    let late : is_forced_late s.plan (Some it.number) (Some (counter s.plan it.number t)) p ≡ true = rw (it.own, ends_late s p it) within in
    ap (λ (o : Option ℕ). forces_off s.plan o (local_in s.plan t o) p) it.runs
    ∙ or_right (agree (Some (counter s.plan it.number t)) (force_off s.plan (Some it.number) p))
    (is_forced_late s.plan (Some it.number) (Some (counter s.plan it.number t)) p || is_permitted s.plan (Some it.number) (Some (counter s.plan it.number t)) p)
    (or_left (is_forced_late s.plan (Some it.number) (Some (counter s.plan it.number t)) p)
    (is_permitted s.plan (Some it.number) (Some (counter s.plan it.number t)) p) late)

-- so it is in the next tick
forced_late : (s : State) (p : ℕ) → IsInLateSpan s p → forced s p ≡ true
forced_late s p it = forced_by_counter s.plan s.pattern s.correction (s.now + 1) p (late_by s p it (counted_tick s.plan s.pattern s.correction (s.now + 1)) it.within)

pub late_is_ready : (plan : Plan) (is : List Input) (row : Row) (p : ℕ) → IsConsistent plan → plan.phase_count ≤ 16 →
    AreTaken plan is → IsLateGreen (replay plan is) row p → ready (replay plan is) row p ≡ true
late_is_ready plan is row p ok few taken it =
    ready_at_once (replay plan is) row p ((replay plan is).now + 1) one it.conflict (ap is_some it.span.runs) it.quiet
    (forced_late (replay plan is) p it.span) refl it.green it.initial it.dont_walk
  where
    few_now : (replay plan is).plan.phase_count ≤ 16
    few_now = let same = count_run plan is in omega (arith, same, few)

    good : IsGood (replay plan is)
    good = good_run plan is ok taken

    one : is_phase p ≡ true
    one = is_one (replay plan is).plan p few_now (good.rings.listed p (ap in_service it.green))

-- what is forced off in the next tick may end in time
pub late_may_end : (plan : Plan) (base later : List Input) (row : Row) (p n : ℕ) → IsConsistent plan → plan.phase_count ≤ 16 →
    AreTaken plan (later ++ base) → IsUntripped plan base later → HasGoneOn (is_pressed_in_pattern p) plan base (Tick row ∷ later) →
    IsInLateSpan (replay plan base) p → longest_initial (replay plan base).plan p ≤ n →
    walk (replay plan base).plan p + pedestrian_clear (replay plan base).plan p ≤ n →
    (replay plan base).now + n ≤ (replay plan (later ++ base)).now → ready (replay plan (later ++ base)) row p ≡ true
late_may_end plan base later row p n ok few taken dark pressed span initial walks long =
    forced_may_end plan base later row p n ok few taken dark pressed (record {
      tick = (replay plan base).now + 1;
      later = omega arith;
      soon = omega arith;
      forced = forced_late (replay plan base) p span;
      initial = initial;
      walk = walks;
    }) long
