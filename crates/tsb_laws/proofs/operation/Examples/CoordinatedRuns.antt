-- Runs from power-up that meet the premises of the laws of coordinated phases, and mistakes that these laws refuse.
use Rattle.std.proofs.Common.{◌≡◌, ℕ, ◌+◌, ◌-◌, ◌≤◌, nat_lt, Bool, true, false, not, ◌&&◌, ◌||◌, List, [], ◌∷◌, Some, None, refl, sym, subst, arith}
use Rattle.std.specs.List.{list_all}
use Rattle.tsb_step.specs.tsb_types.Sets.{all_off}
use Rattle.tsb_step.specs.tsb_types.declared.interval.Interval.TheVariants.{Green}
use Rattle.tsb_step.specs.tsb_types.Intervals.{is_green}
use Rattle.tsb_step.specs.tsb_types.Lists.{some_passes}
use Rattle.tsb_step.specs.tsb_types.declared.row.Row.{Row}
use Rattle.tsb_step.specs.tsb_plan.declared.object.Object.{Object}
use Rattle.tsb_step.specs.tsb_plan.declared.object.Object.TheVariants.{PhaseMinimumGreen, PhaseYellowChange, PatternOffsetTime}
use Rattle.tsb_step.specs.tsb_plan.Objects.{greatest}
use Rattle.tsb_step.specs.tsb_plan.Parts.{cycle}
use Rattle.tsb_step.specs.tsb_plan.Plan.{Plan, all_counts, phases, is_enabled, yellow_change, red_clear, has_minimum_recall, with_values}
use Rattle.tsb_step.specs.tsb_plan.Quad.{quad}
use Rattle.tsb_step.specs.tsb_plan.Running.{mode_in_effect, recalls_minimum, is_on_maximum_recall}
use Rattle.tsb_step.specs.tsb_rules.Consistent.{IsPhase}
use Rattle.tsb_step.specs.tsb_rules.Rules.{first_broken}
use Rattle.tsb_step.specs.tsb_calls.Callable.{has_pedestrian_call, has_passing_call}
use Rattle.tsb_step.specs.tsb_coord.Coordinated.{end_of}
use Rattle.tsb_step.specs.tsb_ring.declared.want.Want.{Want}
use Rattle.tsb_step.specs.tsb_ring.declared.want.Want.TheVariants.{Rest}
use Rattle.tsb_step.specs.tsb_ring.Rings.{Ring, Ring1, Ring2, in_ring}
use Rattle.tsb_step.specs.tsb_ring.Wants.{is_on_side, is_candidate, want_within}
use Rattle.tsb_step.specs.declared.inputs.Input.{Input}
use Rattle.tsb_step.specs.declared.inputs.Input.TheVariants.{Tick, Pattern}
use Rattle.tsb_step.specs.State.{State, interval}
use Rattle.tsb_step.specs.Tick.{service, runs, hold, calls_given, set, callable, conflict, ready, rings_given}
use Rattle.tsb_step.specs.Signs.{IsInStep}
use Rattle.tsb_step.specs.Runs.{replay, AreTaken}
use Rattle.tsb_step.specs.Laws.{IsConsistent}
use Rattle.tsb_step.proofs.Examples.Scenes.{opened, vehicle, called, resting}
use Rattle.tsb_laws.specs.ServedCalls.{IsFullyConcurrent}
use Rattle.tsb_laws.proofs.safety.Examples.PlanFits.{Fits, values_fit, quad_fits, consistent}
use Rattle.tsb_laws.proofs.safety.Examples.CoordinationRuns.{omits, omits_count, omits_consistent}
use Rattle.tsb_laws.proofs.safety.Examples.StretchRuns.{goes_with_all, goes_together}

-- ## A coordinated phase without a recall of its own, as pattern 1 is selected

abbrev pub selected : List Input
selected = Pattern 1 ∷ []

selected_taken : AreTaken omits selected
unfolding opened omits
selected_taken = (tt, refl)

is_held : hold (replay omits selected) 2 ≡ true
unfolding opened omits
is_held = refl

not_green : is_green (interval (replay omits selected) 2) ≡ false
unfolding opened
not_green = refl

count_is_16 : (replay omits selected).plan.phase_count ≡ 16
unfolding opened
count_is_16 = omits_count.0

record Awaited (plan : Plan) (is : List Input) (c : ℕ) : Type 0 where
  consistent : IsConsistent plan
  taken : AreTaken plan is
  phase : IsPhase (replay plan is).plan c
  held : hold (replay plan is) c ≡ true
  dark : is_green (interval (replay plan is) c) ≡ false

an_awaited : Awaited omits selected 2
an_awaited = record {
  consistent = omits_consistent;
  taken = selected_taken;
  phase = record { from_one = omega arith; within = (let count = count_is_16 in omega (arith, count)) };
  held = is_held;
  dark = not_green;
}

-- a pattern that gives its coordinated phases no recall: then nothing calls them
abbrev by_itself : State → Row → ℕ → Bool
by_itself s row p =
    (set s row).vehicle p || (has_pedestrian_call s.plan (calls_given s row) (set s row) p || (has_passing_call s.plan (calls_given s row) p
    || ((has_minimum_recall s.plan p || recalls_minimum (mode_in_effect s.plan (runs s) p)) || is_on_maximum_recall s.plan (runs s) p)))

would_not_be_called : by_itself (replay omits selected) all_off 2 ≡ false
unfolding opened omits
would_not_be_called = refl

-- ## The instant of 6 is in the second tick, in which 5 is called

abbrev prompt_values : List (Object × ℕ × ℕ)
prompt_values = (PhaseYellowChange, 2, 38) ∷ (PhaseYellowChange, 6, 38) ∷ (PatternOffsetTime, 1, 5) ∷ (PhaseMinimumGreen, 6, 0) ∷ []

unfoldable prompt : Plan
prompt = with_values quad prompt_values

prompt_fits : Fits greatest prompt.value
unfolding prompt
prompt_fits = values_fit greatest prompt_values quad refl (quad_fits greatest refl refl)

prompt_count : (prompt.phase_count ≡ 16) × (prompt.counts ≡ all_counts)
unfolding quad prompt
prompt_count = (refl, refl)

prompt_breaks_none : first_broken prompt ≡ None
unfolding opened prompt
prompt_breaks_none = refl

prompt_consistent : IsConsistent prompt
prompt_consistent = consistent greatest prompt prompt_count prompt_breaks_none prompt_fits

abbrev started : List Input
started = Tick all_off ∷ selected

taken : AreTaken prompt started
unfolding opened prompt
taken = ((tt, refl), refl)

dark : (replay prompt started).trip ≡ None
unfolding opened prompt
dark = refl

runs_1 : runs (replay prompt started) ≡ Some 1
unfolding opened prompt
runs_1 = refl

in_step_1 : IsInStep (replay prompt started)
unfolding opened prompt
in_step_1 = refl

is_on : is_enabled (replay prompt started).plan 6 ≡ true
unfolding opened prompt
is_on = refl

ticked_1 : (replay prompt started).now ≡ 1
unfolding opened prompt
ticked_1 = refl

record Running (plan : Plan) (is : List Input) (k p : ℕ) : Type 0 where
  consistent : IsConsistent plan
  taken : AreTaken plan is
  runs : runs (replay plan is) ≡ Some k
  in_step : IsInStep (replay plan is)
  enabled : is_enabled (replay plan is).plan p ≡ true

a_pattern : Running prompt started 1 6
a_pattern = record { consistent = prompt_consistent; taken = taken; runs = runs_1; in_step = in_step_1; enabled = is_on }

-- ## 6 may end in that tick, and 5 waits for it

goes_with_all_so : list_all (goes_with_all prompt) (phases prompt) ≡ true
unfolding opened prompt
goes_with_all_so = refl

plan_is : (replay prompt started).plan ≡ prompt
unfolding opened
plan_is = refl

none_served : service (replay prompt started) (vehicle 5) ≡ None
unfolding opened prompt
none_served = refl

ringed : in_ring (replay prompt started).plan Ring2 6 ≡ true
unfolding opened prompt
ringed = refl

was_green : interval (replay prompt started) 6 ≡ Green
unfolding opened prompt
was_green = refl

fit : ready (replay prompt started) (vehicle 5) 6 ≡ true
unfolding opened prompt
fit = refl

has_conflict_6 : conflict (replay prompt started) (vehicle 5) 6 ≡ true
unfolding opened prompt
has_conflict_6 = refl

record ReadyGreen (plan : Plan) (is : List Input) (row : Row) (r : Ring) (p : ℕ) : Type 0 where
  consistent : IsConsistent plan
  few : plan.phase_count ≤ 16
  taken : AreTaken plan is
  untripped : (replay plan is).trip ≡ None
  quiet : service (replay plan is) row ≡ None
  full : IsFullyConcurrent (replay plan is).plan
  ringed : in_ring (replay plan is).plan r p ≡ true
  green : interval (replay plan is) p ≡ Green
  fit : ready (replay plan is) row p ≡ true
  pressed : conflict (replay plan is) row p ≡ true

a_ready_green : ReadyGreen prompt started (vehicle 5) Ring2 6
a_ready_green = record {
  consistent = prompt_consistent;
  few = (let count = prompt_count.0 in omega (arith, count));
  taken = taken;
  untripped = dark;
  quiet = none_served;
  full = subst IsFullyConcurrent (sym plan_is) (goes_together prompt prompt_consistent goes_with_all_so);
  ringed = ringed;
  green = was_green;
  fit = fit;
  pressed = has_conflict_6;
}

-- ## A ring that looks across the barrier for its own phases alone

-- 8 of ring 2 is called, across the barrier from 2
abbrev calls_across : State
calls_across = record resting { memories = called (8 ∷ []) }

may_end_2 : ready calls_across all_off 2 ≡ true
unfolding opened
may_end_2 = refl

has_conflict_2 : conflict calls_across all_off 2 ≡ true
unfolding opened
has_conflict_2 = refl

abbrev is_called_in_ring : ℕ → Bool
is_called_in_ring p = callable calls_across all_off p && (in_ring quad Ring1 p && not (is_on_side quad calls_across.rings.side p))

abbrev by_own_ring : Want
by_own_ring =
    want_within ((rings_given calls_across all_off).sequence Ring1) (calls_across.rings.last Ring1)
    (is_candidate quad calls_across.rings (rings_given calls_across all_off) Ring1 None) (some_passes is_called_in_ring (phases quad))

would_rest : by_own_ring ≡ Rest
unfolding opened
would_rest = refl

-- ## An instant that is not taken within the cycle never comes

abbrev past_the_cycle : Plan → ℕ → ℕ → ℕ → ℕ
past_the_cycle plan n c p = end_of plan n p + (cycle plan n - (end_of plan n c + yellow_change plan p + red_clear plan p))

would_never_come : nat_lt (past_the_cycle quad 1 2 4) (cycle quad 1) ≡ false
unfolding opened
would_never_come = refl
