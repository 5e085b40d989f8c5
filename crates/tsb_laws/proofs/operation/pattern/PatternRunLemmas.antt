-- A called phase is Green in time in a pattern, and so a coordinated one: along a run. Proves
-- `phases_are_served_in_patterns`.
use Rattle.std.proofs.Common.{◌≡◌, ℕ, nat_le, ◌+◌, ◌-◌, ◌≤◌, ◌==◌, true, false, not, ◌&&◌, List, [], ◌∷◌, ◌++◌, Option, Some, None, is_some, is_none, refl, ap, subst, ◌∙◌, inl, inr, arith}
use Rattle.std.proofs.lemmas.Bool.{cases_Bool, and_parts, not-true, true≢false, false≢true}
use Rattle.std.proofs.lemmas.Bool.Decides.{nat_tests}
use Rattle.tsb_step.specs.tsb_types.declared.row.Row.{Row}
use Rattle.tsb_step.specs.tsb_types.Intervals.{is_green, in_service}
use Rattle.tsb_step.specs.tsb_plan.declared.object.Object.TheVariants.{PhaseRing}
use Rattle.tsb_step.specs.tsb_plan.Plan.{Plan, is_enabled}
use Rattle.tsb_step.specs.tsb_plan.Running.{running as running_of}
use Rattle.tsb_step.specs.tsb_rules.Consistent.{IsPhase}
use Rattle.tsb_step.proofs.tsb_rules.ConsistentLemmas.{placed}
use Rattle.tsb_step.specs.tsb_coord.Correction.{is_in_step}
use Rattle.tsb_step.specs.tsb_ring.Rings as rings
use Rattle.tsb_step.specs.tsb_ring.Rings.{Ring, Ring1, Ring2, in_ring}
use Rattle.tsb_step.specs.declared.inputs.Input.{Input}
use Rattle.tsb_step.specs.declared.inputs.Input.TheVariants as inputs
use Rattle.tsb_step.specs.declared.inputs.Input.TheVariants.{Tick}
use Rattle.tsb_step.specs.State.{State, interval}
use Rattle.tsb_step.specs.Tick.{service, runs, hold, callable, next}
use Rattle.tsb_step.specs.Signs.{IsInStep}
use Rattle.tsb_step.specs.Step.{step}
use Rattle.tsb_step.specs.Runs.{replay, AreTaken}
use Rattle.tsb_step.specs.Laws.{IsConsistent}
use Rattle.tsb_step.specs.Tables.{has_place}
use Rattle.tsb_step.specs.TimeLaws.{is_tick}
use Rattle.tsb_step.proofs.ClearLemmas.{stays_in_step}
use Rattle.tsb_step.proofs.GoodLemmas.{good_run}
use Rattle.tsb_laws.specs.Stretches.{IsUntripped}
use Rattle.tsb_laws.specs.ServedCalls.{IsFullyConcurrent}
use Rattle.tsb_laws.specs.CoordinatedGreens.{HasGoneOn, IsAwaited, is_out, is_called_in_pattern, longest_in_pattern, TurnsInPattern, time_to_be_served}
use Rattle.tsb_laws.proofs.safety.StretchLemmas.{dark_now, taken_before}
use Rattle.tsb_laws.proofs.safety.DueLemmas.{count_run}
use Rattle.tsb_laws.proofs.safety.EnabledLemmas.{enabled_run}
use Rattle.tsb_laws.proofs.operation.green.PressedRunLemmas.{timed_run}
use Rattle.tsb_laws.proofs.operation.pattern.CoordinatedCallLemmas.{held_runs, awaited}
use Rattle.tsb_laws.proofs.operation.pattern.CoordinatedInstantLemmas.{instants_come}
use Rattle.tsb_laws.proofs.operation.calls.RingPlaceLemmas.{View, view}
use Rattle.tsb_laws.proofs.operation.pattern.PatternGreenLemmas.{LastsInPattern, lasts_now, bounds_greens}
use Rattle.tsb_laws.proofs.operation.calls.CourseLemmas.{view_next, view_then, lit_view, reset_view, AreBounded, Course, on_or_still, served_in}
use Rattle.tsb_step.proofs.EventLemmas.{none-of}

-- other inputs leave all that is seen, where no pattern is selected and nothing is committed
view_stays : (s : State) (i : Input) (c : ℕ) → is_tick i ≡ false → is_called_in_pattern c s i ≡ true → s.trip ≡ None → view false (step s i) ≡ view false s
unfolding step
view_stays s (inputs.Tick row) c t h dark = absurd (true≢false t)
view_stays s (inputs.Pattern n) c t h dark = absurd (false≢true h)
view_stays s (inputs.Clock m) c t h dark = absurd (false≢true h)
view_stays s (inputs.Commit station) c t h dark = absurd (false≢true h)
view_stays s (inputs.Fault lamp) c t h dark = lit_view false s lamp
view_stays s inputs.Reset c t h dark = reset_view false s dark
view_stays s i c t h dark = refl

-- ## A phase of a ring

ringed_is_phase : (plan : Plan) → IsConsistent plan → (r : Ring) (p : ℕ) → in_ring plan r p ≡ true → IsPhase plan p
ringed_is_phase plan ok r p own =
    elim (cases_Bool (has_place plan PhaseRing p)) [
      | inl here ↦ record {
        from_one = grind (arith, nat_tests, (and_parts (nat_le 1 p) (nat_le p plan.phase_count) here).0);
        within = grind (arith, nat_tests, (and_parts (nat_le 1 p) (nat_le p plan.phase_count) here).1);
      }
      | inr out ↦ (let none : plan.value PhaseRing p ≡ 0 = ok.placed PhaseRing p out in absurd (off r (rw none at own)))
    ]
  where
    off : (x : Ring) → (0 == rings.number x) ≡ true → ⊥
    off Ring1 e = cc
    off Ring2 e = cc

-- ## Along the run

module _ (plan : Plan) (base : List Input) (k c : ℕ) (ok : IsConsistent plan) (few : plan.phase_count ≤ 16) (running : runs (replay plan base) ≡ Some k) (stepped : IsInStep (replay plan base)) where
  abbrev longest : ℕ → ℕ
  longest p = longest_in_pattern (replay plan base).plan k p

  abbrev Goes : List Input → Type 0
  Goes later = Course false longest LastsInPattern c plan base later

  -- plan and pattern are those of the base, and the local counter is in step
  record Same (is : List Input) : Type 0 where
    plan_is : (replay plan is).plan ≡ (replay plan base).plan
    pattern_is : (replay plan is).pattern ≡ (replay plan base).pattern
    in_step : IsInStep (replay plan is)

  same_base : Same base
  same_base = record { plan_is = refl; pattern_is = refl; in_step = stepped }

  same_by : (is : List Input) (i : Input) (v : View) → view false (replay plan (i ∷ is)) ≡ v → v.plan ≡ (replay plan is).plan → v.pattern ≡ (replay plan is).pattern →
      IsInStep (replay plan (i ∷ is)) → Same is → Same (i ∷ is)
  same_by is i v e f g h was = record {
    plan_is = ap (λ (x : View). x.plan) e ∙ (f ∙ was.plan_is);
    pattern_is = ap (λ (x : View). x.pattern) e ∙ (g ∙ was.pattern_is);
    in_step = h;
  }

  same_now : (later : List Input) → IsUntripped plan base later → HasGoneOn (is_called_in_pattern c) plan base later → Same (later ++ base)
  same_now [] dark out = same_base
  same_now (inputs.Tick row ∷ later) dark out =
      let was : Same (later ++ base) = same_now later dark.0 out.0 in
      same_by (later ++ base) (Tick row) (view false (next (replay plan (later ++ base)) row)) (view_next false (replay plan (later ++ base)) row (dark_now plan base later dark.0)) refl refl
      (stays_in_step (replay plan (later ++ base)) (λ k. row) 1 was.in_step) was
  same_now (i ∷ later) dark out =
      let was : Same (later ++ base) = same_now later dark.0 out.0 in
      let seen = view_stays (replay plan (later ++ base)) i c refl out.1 (dark_now plan base later dark.0) in
      same_by (later ++ base) i (view false (replay plan (later ++ base))) seen refl refl
      (ap (λ (v : View). is_in_step v.plan v.pattern v.correction v.now) seen ∙ was.in_step) was

  runs_now : (is : List Input) → Same is → runs (replay plan is) ≡ Some k
  runs_now is same =
      ap (λ (x : Plan). running_of x (replay plan is).pattern) same.plan_is ∙ (ap (λ (o : Option ℕ). running_of (replay plan base).plan o) same.pattern_is ∙ running)

  bounded : (is : List Input) → AreTaken plan is → Same is → AreBounded false longest LastsInPattern c (view false (replay plan is))
  bounded is taken same p green =
      let on : is_enabled (replay plan is).plan p ≡ true = (enabled_run plan is ok taken).serves p (ap in_service green) in
      subst (λ (x : Plan). LastsInPattern (view false (replay plan is)) p (longest_in_pattern x k p)) same.plan_is
      (lasts_now (replay plan is) k p (instants_come plan is k p ok taken (runs_now is same) same.in_step on))

  -- a tick in which c is called
  in_tick : (row : Row) (later : List Input) → AreTaken plan (Tick row ∷ (later ++ base)) → (replay plan (later ++ base)).trip ≡ None →
      is_called_in_pattern c (replay plan (later ++ base)) (Tick row) ≡ true → Same (later ++ base) → Same (Tick row ∷ (later ++ base)) → Goes later → Goes (Tick row ∷ later)
  in_tick row later taken dark out same same_then on = (
    on,
    record {
      called = outer.0;
      quiet = quiet;
      bounds = bounds_greens (replay plan (later ++ base)) row longest (good_run plan (later ++ base) ok taken.0) (let count = count_run plan (later ++ base) in omega (arith, count, few))
          (ap is_some (runs_now (later ++ base) same)) quiet (timed_run plan (later ++ base) ok taken.0 dark)
          (subst (AreBounded false longest LastsInPattern c) (view_then false (replay plan (later ++ base)) row dark quiet) greens_then);
      greens = greens_then;
    },
  )
    where
      outer : (callable (replay plan (later ++ base)) row c ≡ true) × ((is_some (runs (replay plan (later ++ base))) && is_none (service (replay plan (later ++ base)) row)) ≡ true)
      outer = and_parts (callable (replay plan (later ++ base)) row c) (is_some (runs (replay plan (later ++ base))) && is_none (service (replay plan (later ++ base)) row)) out

      quiet : service (replay plan (later ++ base)) row ≡ None
      quiet =
          none-of (service (replay plan (later ++ base)) row)
          (and_parts (is_some (runs (replay plan (later ++ base)))) (is_none (service (replay plan (later ++ base)) row)) outer.1).1

      greens_then : AreBounded false longest LastsInPattern c (view false (step (replay plan (later ++ base)) (Tick row)))
      greens_then = bounded (Tick row ∷ (later ++ base)) taken same_then

  course : (later : List Input) → AreTaken plan (later ++ base) → IsUntripped plan base later → HasGoneOn (is_called_in_pattern c) plan base later → Goes later
  course [] taken dark out = bounded base taken same_base
  course (inputs.Tick row ∷ later) taken dark out =
      in_tick row later taken (dark_now plan base later dark.0) out.1 (same_now later dark.0 out.0) (same_now (Tick row ∷ later) dark out) (course later taken.0 dark.0 out.0)
  course (i ∷ later) taken dark out =
      let seen = view_stays (replay plan (later ++ base)) i c refl out.1 (dark_now plan base later dark.0) in
      (course later taken.0 dark.0 out.0, record { seen = seen; clock = ap (λ (v : View). v.now) seen })

pub served_in_pattern : (plan : Plan) (base later : List Input) (k j h : ℕ) (r : Ring) (c : ℕ) → IsConsistent plan → plan.phase_count ≤ 16 →
    AreTaken plan (later ++ base) → IsUntripped plan base later → IsFullyConcurrent (replay plan base).plan →
    runs (replay plan base) ≡ Some k → IsInStep (replay plan base) → in_ring (replay plan base).plan r c ≡ true →
    TurnsInPattern (replay plan base).plan k j h → HasGoneOn (is_called_in_pattern c) plan base later →
    (replay plan (later ++ base)).now ≤ (replay plan base).now + time_to_be_served (replay plan base) k j h r c
served_in_pattern plan base later k j h r c ok few taken dark full running stepped own times out =
    let on : Course false (longest_in_pattern (replay plan base).plan k) LastsInPattern c plan base later = course plan base k c ok few running stepped later taken dark out in
    elim (on_or_still false (longest_in_pattern (replay plan base).plan k) LastsInPattern c plan base later on) [
      | inr same ↦ omega (arith, same)
      | inl enabled ↦ served_in false (longest_in_pattern (replay plan base).plan k) LastsInPattern c plan base j h r ok few full times.clears times.green own enabled taken_base
          (bounded plan base k c ok few running stepped base taken_base (same_base plan base k c ok few running stepped)) later taken dark on
    ]
  where
    taken_base : AreTaken plan base
    taken_base = taken_before plan base later taken

-- ## A coordinated phase is called in each tick

module _ (plan : Plan) (base : List Input) (c : ℕ) (ok : IsConsistent plan) (phase : IsPhase (replay plan base).plan c) where
  phase_now : (later : List Input) → IsPhase (replay plan (later ++ base)).plan c
  phase_now later =
      let now = count_run plan (later ++ base) in let was = count_run plan base in let low = phase.from_one in let high = phase.within in
      record { from_one = low; within = omega (arith, now, was, high) }

  called_on : (later : List Input) → AreTaken plan (later ++ base) → HasGoneOn (is_out c) plan base later → HasGoneOn (is_called_in_pattern c) plan base later
  called_on [] taken out = tt
  called_on (inputs.Tick row ∷ later) taken out = (called_on later taken.0 out.0, rw (waits.called, runs_on, outer.1) refl)
    where
      outer : ((hold (replay plan (later ++ base)) c && not (is_green (interval (replay plan (later ++ base)) c))) ≡ true) × (is_none (service (replay plan (later ++ base)) row) ≡ true)
      outer = and_parts (hold (replay plan (later ++ base)) c && not (is_green (interval (replay plan (later ++ base)) c))) (is_none (service (replay plan (later ++ base)) row)) out.1

      inner : (hold (replay plan (later ++ base)) c ≡ true) × (not (is_green (interval (replay plan (later ++ base)) c)) ≡ true)
      inner = and_parts (hold (replay plan (later ++ base)) c) (not (is_green (interval (replay plan (later ++ base)) c))) outer.0

      waits : IsAwaited (replay plan (later ++ base)) row c
      waits =
          awaited plan (later ++ base) row c ok taken.0 (phase_now later) inner.0
          (not-true (is_green (interval (replay plan (later ++ base)) c)) inner.1)

      runs_on : is_some (runs (replay plan (later ++ base))) ≡ true
      runs_on = let it = held_runs (replay plan (later ++ base)) c inner.0 in ap is_some it.1
  called_on (inputs.Pattern n ∷ later) taken out = absurd (false≢true out.1)
  called_on (inputs.Clock m ∷ later) taken out = absurd (false≢true out.1)
  called_on (inputs.Commit station ∷ later) taken out = absurd (false≢true out.1)
  called_on (i ∷ later) taken out = (called_on later taken.0 out.0, refl)

pub coordinated_in_time : (plan : Plan) (base later : List Input) (k j h : ℕ) (r : Ring) (c : ℕ) → IsConsistent plan → plan.phase_count ≤ 16 →
    AreTaken plan (later ++ base) → IsUntripped plan base later → IsFullyConcurrent (replay plan base).plan →
    runs (replay plan base) ≡ Some k → IsInStep (replay plan base) → in_ring (replay plan base).plan r c ≡ true →
    TurnsInPattern (replay plan base).plan k j h → HasGoneOn (is_out c) plan base later →
    (replay plan (later ++ base)).now ≤ (replay plan base).now + time_to_be_served (replay plan base) k j h r c
coordinated_in_time plan base later k j h r c ok few taken dark full running stepped own times out =
    let good = good_run plan base ok (taken_before plan base later taken) in
    served_in_pattern plan base later k j h r c ok few taken dark full running stepped own times
    (called_on plan base c ok (ringed_is_phase (replay plan base).plan good.plan r c own) later taken out)
