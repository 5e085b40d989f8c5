-- What a log sees of the layers, set by set.
use Rattle.std.proofs.Common.{◌≡◌, ℕ, ◌+◌, ◌<◌, ◌≤◌, Bool, true, false, not, ◌&&◌, ◌||◌, if◌then◌else◌, nat_le, Option, Some, None, is_some, is_none, refl, sym, ap, ap₂, ◌∙◌, inl, inr, arith}
use Rattle.std.proofs.lemmas.Bool.{cases_Bool}
use Rattle.std.proofs.lemmas.Bool.Decides.{nat_tests}
use Rattle.std.specs.List.{list_any}
use Rattle.tsb_step.specs.tsb_types.declared.limits.TheConstants.{OVERLAPS, VEHICLE_DETECTORS}
use Rattle.tsb_step.specs.tsb_types.declared.flow.Intervals.{Intervals}
use Rattle.tsb_step.specs.tsb_types.declared.flow.Pedestrians.{Pedestrians}
use Rattle.tsb_step.specs.tsb_types.declared.interval.Interval.{Interval}
use Rattle.tsb_step.specs.tsb_types.declared.interval.Interval.TheVariants.{Red}
use Rattle.tsb_step.specs.tsb_types.declared.interval.PedestrianInterval.{PedestrianInterval}
use Rattle.tsb_step.specs.tsb_types.declared.interval.PedestrianInterval.TheVariants.{DontWalk}
use Rattle.tsb_step.specs.tsb_types.declared.lamp.Aspect.{Aspect}
use Rattle.tsb_step.specs.tsb_types.declared.lamp.Aspect.TheVariants.{Dark}
use Rattle.tsb_step.specs.tsb_types.declared.number_set.NumberSet.{NumberSet}
use Rattle.tsb_step.specs.tsb_types.declared.phase_set.PhaseSet.{PhaseSet}
use Rattle.tsb_step.specs.tsb_types.Clip.{Agree}
use Rattle.tsb_step.specs.tsb_types.Flow.{interval_of, pedestrian_of}
use Rattle.tsb_step.specs.tsb_types.declared.stage.Stage.{Stage}
use Rattle.tsb_step.specs.tsb_types.Intervals.{in_service, is_green as is_green_interval, is_yellow, is_red_clear, is_walk, is_clearance}
use Rattle.tsb_step.specs.tsb_types.Lists.{first, run_from}
use Rattle.tsb_step.specs.tsb_types.Sets.{has, has_number}
use Rattle.tsb_step.proofs.tsb_types.ClipLemmas.{all-agree, any-agree}
use Rattle.tsb_step.proofs.tsb_types.FirstLemmas.{first-passes, first-within}
use Rattle.tsb_step.specs.tsb_plan.Plan.{Plan, phases}
use Rattle.tsb_step.specs.tsb_plan.PlanOf.{plan_of}
use Rattle.tsb_step.specs.tsb_plan.Running.{running}
use Rattle.tsb_calls.specs.Looks as calls
use Rattle.tsb_calls.specs.Promises.{given_of}
use Rattle.tsb_calls.specs.Standing.{pedestrian_call, vehicle_call}
use Rattle.tsb_calls.proofs.LookLemmas.{look-alike}
use Rattle.tsb_calls.specs.declared.standing.Standing.{Standing}
use Rattle.tsb_phase.specs.Promises.{TellsIntervals, TellsPedestrians}
use Rattle.tsb_heads.specs.declared.display.Display.{Display}
use Rattle.tsb_heads.specs.Colours.{is_flashing_yellow, is_yellow as is_yellow_head}
use Rattle.tsb_heads.specs.Heads.{Heads}
use Rattle.tsb_heads.specs.Monitoring.{is_green}
use Rattle.tsb_heads.specs.Promises.{IsSame, NamesNot, NamesOverlaps}
use Rattle.tsb_heads.specs.Reading.{flashed_if, heads_of}
use Rattle.tsb_objects.specs.declared.checked.Checked.{Checked}
use Rattle.tsb_objects.specs.Checked.{checked_plan}
use Rattle.tsb_preempt.specs.Service.{all_green, stage_phases}
use Rattle.tsb_preempt.proofs.GreenLemmas.{all_green-told}
use Rattle.tsb_overlap.specs.Cells.{overlap_in}
use Rattle.tsb_overlap.specs.declared.parts.OverlapInterval.{OverlapInterval}
use Rattle.tsb_overlap.specs.Overlap.{is_trail_green}
use Rattle.tsb_step.specs.Cells.{clock_at}
use Rattle.tsb_step.specs.Events.{calls_now, includes_service, is_by, is_off, is_overlap, trails_now, shown_interval, shown_part, stage_is_green}
use Rattle.tsb_step.specs.State.{State}
use Rattle.tsb_controller.specs.Rows.{Rows, Beside, state_of}
use Rattle.tsb_controller.specs.Seen.{IsStanding, is_off_beside}
use Rattle.tsb_controller.proofs.OverlapLemmas.{interval-any}
use Rattle.tsb_controller.proofs.TickLemmas.{alike-own}

-- ## Sets of phases, by their intervals and parts

pub yellow-set : (i : Intervals) (p : ℕ) → (has i.yellow p && not (has i.green p)) ≡ is_yellow (interval_of i p)
yellow-set i p = go (has i.green p) (has i.yellow p) (has i.red_clear p) refl refl refl
  where
    go : (g y r : Bool) → has i.green p ≡ g → has i.yellow p ≡ y → has i.red_clear p ≡ r →
        (has i.yellow p && not (has i.green p)) ≡ is_yellow (interval_of i p)
    go true true r e f h = rw (e, f) refl
    go true false r e f h = rw (e, f) refl
    go false true r e f h = rw (e, f) refl
    go false false true e f h = rw (e, f, h) refl
    go false false false e f h = rw (e, f, h) refl

pub clear-set : (i : Intervals) (p : ℕ) → ((has i.red_clear p && not (has i.green p)) && not (has i.yellow p)) ≡ is_red_clear (interval_of i p)
clear-set i p = go (has i.green p) (has i.yellow p) (has i.red_clear p) refl refl refl
  where
    go : (g y r : Bool) → has i.green p ≡ g → has i.yellow p ≡ y → has i.red_clear p ≡ r →
        ((has i.red_clear p && not (has i.green p)) && not (has i.yellow p)) ≡ is_red_clear (interval_of i p)
    go true true true e f h = rw (e, f, h) refl
    go true true false e f h = rw (e, f, h) refl
    go true false true e f h = rw (e, f, h) refl
    go true false false e f h = rw (e, f, h) refl
    go false true true e f h = rw (e, f, h) refl
    go false true false e f h = rw (e, f, h) refl
    go false false true e f h = rw (e, f, h) refl
    go false false false e f h = rw (e, f, h) refl

pub walk-set : (i : Pedestrians) (p : ℕ) → has i.walk p ≡ is_walk (pedestrian_of i p)
walk-set i p = go (has i.walk p) (has i.clearance p) refl refl
  where
    go : (w c : Bool) → has i.walk p ≡ w → has i.clearance p ≡ c → has i.walk p ≡ is_walk (pedestrian_of i p)
    go true c e f = rw e refl
    go false true e f = rw (e, f) refl
    go false false e f = rw (e, f) refl

pub clearance-set : (i : Pedestrians) (p : ℕ) → (has i.clearance p && not (has i.walk p)) ≡ is_clearance (pedestrian_of i p)
clearance-set i p = go (has i.walk p) (has i.clearance p) refl refl
  where
    go : (w c : Bool) → has i.walk p ≡ w → has i.clearance p ≡ c → (has i.clearance p && not (has i.walk p)) ≡ is_clearance (pedestrian_of i p)
    go true true e f = rw (e, f) refl
    go true false e f = rw (e, f) refl
    go false true e f = rw (e, f) refl
    go false false e f = rw (e, f) refl

-- ## What is shown of the intervals and parts

module _ (tripped : Bool) (rows : Rows) (now : ℕ) (b : Beside) (trips : is_some b.trip ≡ tripped) where
  pub shown-intervals : (i j : Intervals) → TellsIntervals rows.phases i → ((p : ℕ) → interval_of j p ≡ (if tripped then Red else interval_of i p)) →
      Agree (interval_of j) (shown_interval (state_of now b rows))
  shown-intervals i j told is p from to =
      is p ∙ ap₂ (λ (t : Bool) (x : Interval). if t then Red else x) (sym trips) (told (clock_at now b.trip) p from to)

  pub shown-parts : (i j : Pedestrians) → TellsPedestrians rows.phases i → ((p : ℕ) → pedestrian_of j p ≡ (if tripped then DontWalk else pedestrian_of i p)) →
      Agree (pedestrian_of j) (shown_part (state_of now b rows))
  shown-parts i j told is p from to =
      is p ∙ ap₂ (λ (t : Bool) (x : PedestrianInterval). if t then DontWalk else x) (sym trips) (told (clock_at now b.trip) p from to)

module _ (tripped : Bool) (rows : Rows) (now : ℕ) (b : Beside) (trips : is_some b.trip ≡ tripped) where
  none-some : {A : Type 0} (x : Option A) → not (is_some x) ≡ is_none x
  none-some None = refl
  none-some (Some x) = refl

  -- the overlaps that are green after their phases, at whatever tick they are read
  pub trails-told : (n o : ℕ) → 1 ≤ o → o ≤ OVERLAPS → (not tripped && is_trail_green (overlap_in n rows.overlaps o).interval) ≡ (is_overlap o && trails_now (state_of now b rows) o)
  trails-told n o from to =
      let here : is_overlap o ≡ true = grind (arith, nat_tests, from, to) in
      ap₂ (λ (a : Bool) (i : OverlapInterval). a && is_trail_green i) (ap not (sym trips) ∙ none-some b.trip) (interval-any n (clock_at now b.trip) rows.overlaps o)
      ∙ ap (λ (a : Bool). a && trails_now (state_of now b rows) o) (sym here)

-- ## The stage of a preempt

pub at-least-16 : (checked : Checked) → 16 ≤ (checked_plan checked).phase_count
unfolding checked_plan plan_of
at-least-16 checked = omega arith

-- all of a list are Green where no other is left of it
pub greens-told : (plan : Plan) (i : Intervals) (list : ℕ → Bool) (set rest : PhaseSet) (o : Option ℕ) (r : Bool) → 16 ≤ plan.phase_count →
    ((p : ℕ) → has set p ≡ list p) → ((p : ℕ) → has rest p ≡ (has set p && not (has i.green p))) → o ≡ first (has rest) (run_from 1 16) →
    (o ≡ None → (p : ℕ) → has rest p ≡ false) → is_some o ≡ not r → r ≡ all_green plan (interval_of i) list
greens-told plan i list set rest None r many is left found none told =
    all_green-told plan i list set r many is (λ e p. sym (left p) ∙ none refl p) (λ e. let no : false ≡ true = told ∙ ap not e in absurd cc)
greens-told plan i list set rest (Some p) r many is left found none told =
    all_green-told plan i list set r many is (λ e. let no : true ≡ false = told ∙ ap not e in absurd cc)
    (λ e.
    let bounds : (1 ≤ p) × (p < 1 + 16) = first-within (has rest) 1 16 p (sym found) in
    let had : has rest p ≡ true = first-passes (has rest) (run_from 1 16) p (sym found) in
    (p, bounds.0, omega (arith, bounds.1), sym (left p) ∙ had))

pub stage-green-same : (plan : Plan) (f g : ℕ → Interval) (o : Option (ℕ × Stage)) → plan.phase_count ≤ 16 → Agree f g →
    stage_is_green plan f o ≡ stage_is_green plan g o
unfolding all_green
stage-green-same plan f g None few same = refl
stage-green-same plan f g (Some x) few same =
    all-agree plan.phase_count (λ p. not (stage_phases plan x.0 x.1 p) || is_green_interval (f p)) (λ p. not (stage_phases plan x.0 x.1 p) || is_green_interval (g p)) few
    (λ p from to i. not (stage_phases plan x.0 x.1 p) || is_green_interval (same p from to i))

-- ## Calls

module _ (plan : Plan) (count : plan.phase_count ≤ 16) (few : plan.counts.vehicle_detectors ≤ VEHICLE_DETECTORS) (rows : Rows) (i : Intervals) (w : Pedestrians) (result : Standing)
    (told : TellsIntervals rows.phases i) (walking : TellsPedestrians rows.phases w) (it : IsStanding i w plan rows result) (now : ℕ) (b : Beside) (same : b.plan ≡ plan) where
  abbrev s : State
  s = state_of now b rows

  alike : calls.AgreeOnPhases plan (given_of it.observed) (calls_now s)
  alike = record {
    output = λ d from to. it.outputs_are (clock_at now b.trip) d from (omega (arith, to, few));
    actuated = λ d from to. it.actuated_are (clock_at now b.trip) d from (omega (arith, to, few));
    button = λ d from to. it.no_button d;
    interval = λ p from to. ap (λ (x : Intervals). interval_of x p) it.intervals_are ∙ told (clock_at now b.trip) p from to;
    pedestrian_part = λ p from to. ap (λ (x : Pedestrians). pedestrian_of x p) it.pedestrians_are ∙ walking (clock_at now b.trip) p from to;
    runs = it.runs_is ∙ ap (λ (x : Plan). running_of x) (sym same);
    omitted = λ p from to. it.none_omitted p;
    service_ended = it.none_ended;
  }
    where
      running_of : Plan → Option ℕ
      running_of x = running x s.pattern

  look : calls.LookAlike plan (given_of it.observed) (calls_now s)
  look = look-alike plan (given_of it.observed) (calls_now s) count alike

  called : calls.AreCalledAlike plan (given_of it.observed) (calls_now s) s.memories s.memories
  called = look.called s.memories s.memories (alike-own s.memories)

  pub vehicle-calls : Agree (has result.vehicle) (vehicle_call b.plan (calls_now s) s.memories)
  vehicle-calls p from to =
      (it.stands p from to).vehicle
      ∙ rw (called.output p from to, alike.interval p from to, alike.runs) refl
      ∙ ap (λ (x : Plan). vehicle_call x (calls_now s) s.memories p) (sym same)

  pub pedestrian-calls : Agree (has result.pedestrian) (pedestrian_call b.plan (calls_now s) s.memories)
  pedestrian-calls p from to =
      (it.stands p from to).pedestrian
      ∙ rw (called.pedestrian p from to, alike.pedestrian_part p from to) refl
      ∙ ap (λ (x : Plan). pedestrian_call x (calls_now s) s.memories p) (sym same)

-- ## Overlaps

pub served-told : (checked : Checked) (o : ℕ) (served : PhaseSet) (s : State) → s.plan ≡ checked_plan checked →
    ((p : ℕ) → 1 ≤ p → p ≤ 16 → has served p ≡ in_service (shown_interval s p)) →
    list_any (λ p. is_by (checked_plan checked) o p && has served p) (run_from 1 16) ≡ includes_service s o
unfolding checked_plan plan_of
served-told checked o served s same told =
    any-agree 16 (λ p. is_by (checked_plan checked) o p && has served p) (λ p. is_by (checked_plan checked) o p && in_service (shown_interval s p)) (omega arith)
    (λ p from to. ap (λ (b : Bool). is_by (checked_plan checked) o p && b) (told p from to))
    ∙ ap (λ (plan : Plan). list_any (λ p. is_by plan o p && in_service (shown_interval s p)) (phases plan)) (sym same)

-- a set of the overlaps that pass a test, of which a dark head passes none
module _ (test : Aspect → Bool) (dark : (b : Bool) → test (flashed_if b Dark) ≡ false) (d : Display) (said : Heads) (same : IsSame (heads_of d) said) (few : NamesOverlaps d) where
  pub overlaps-told : (o : ℕ) → 1 ≤ o → test ((heads_of d).overlap o) ≡ (is_overlap o && test (said.overlap o))
  overlaps-told o from = elim (cases_Bool (nat_le o OVERLAPS)) [
    | inl on ↦
        let to : o ≤ OVERLAPS = grind (arith, nat_tests, on) in
        let here : is_overlap o ≡ true = grind (arith, nat_tests, from, to) in
        rw (same.overlap o from to, here) refl
    | inr off ↦
        let over : OVERLAPS < o = grind (arith, nat_tests, off) in
        let none : NamesNot d o = few o over in
        let away : is_overlap o ≡ false = grind (arith, nat_tests, over) in
        rw (none.arrow, none.red, none.yellow, none.green, away) (dark d.flashing)
  ]

pub dark-green : (b : Bool) → is_green (flashed_if b Dark) ≡ false
dark-green true = refl
dark-green false = refl

pub dark-yellow : (b : Bool) → is_yellow_head (flashed_if b Dark) ≡ false
dark-yellow true = refl
dark-yellow false = refl

pub dark-arrow : (b : Bool) → is_flashing_yellow (flashed_if b Dark) ≡ false
dark-arrow true = refl
dark-arrow false = refl

-- the overlaps that are off
pub off-told : (plan : Plan) (lit off : NumberSet) (served : PhaseSet) (s : State) (heads : Heads) →
    ((o : ℕ) → 1 ≤ o → o ≤ OVERLAPS → has_number off o ≡ is_off_beside plan lit served o) → ((o : ℕ) → OVERLAPS < o → has_number off o ≡ false) →
    ((o : ℕ) → 1 ≤ o → has_number lit o ≡ ((is_overlap o && is_green (heads.overlap o)) || ((is_overlap o && is_yellow_head (heads.overlap o)) || (is_overlap o && is_flashing_yellow (heads.overlap o))))) →
    ((o : ℕ) → list_any (λ p. is_by plan o p && has served p) (run_from 1 16) ≡ includes_service s o) →
    (o : ℕ) → 1 ≤ o → has_number off o ≡ (is_overlap o && is_off (heads.overlap o) (includes_service s o))
off-told plan lit off served s heads told few is_lit includes o from = elim (cases_Bool (nat_le o OVERLAPS)) [
  | inl on ↦
      let to : o ≤ OVERLAPS = grind (arith, nat_tests, on) in
      let here : is_overlap o ≡ true = grind (arith, nat_tests, from, to) in
      told o from to ∙ rw (is_lit o from, includes o, here) refl
  | inr away ↦
      let over : OVERLAPS < o = grind (arith, nat_tests, away) in
      let none : is_overlap o ≡ false = grind (arith, nat_tests, over) in
      few o over ∙ sym (rw none refl)
]
