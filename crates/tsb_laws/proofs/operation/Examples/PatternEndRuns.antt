-- Runs from power-up that meet all premises of the laws of greens that end in a pattern by floating force-off and by a
-- maximum, and mistakes that these laws refuse.
use Rattle.std.proofs.Common.{◌≡◌, ℕ, ◌+◌, ◌≤◌, Bool, true, false, ◌&&◌, List, [], ◌∷◌, ◌++◌, Option, Some, None, is_none, refl, ap, arith}
use Rattle.tsb_step.specs.tsb_cells.Timer.{has_reached}
use Rattle.tsb_step.specs.tsb_types.declared.interval.Interval.{Interval}
use Rattle.tsb_step.specs.tsb_types.declared.interval.Interval.TheVariants.{Green}
use Rattle.tsb_step.specs.tsb_types.declared.interval.PedestrianInterval.{PedestrianInterval}
use Rattle.tsb_step.specs.tsb_types.declared.interval.PedestrianInterval.TheVariants.{DontWalk}
use Rattle.tsb_step.specs.tsb_types.Sets.{all_off}
use Rattle.tsb_step.specs.tsb_types.declared.row.Row.{Row}
use Rattle.tsb_step.specs.tsb_plan.declared.object.Object.{Object}
use Rattle.tsb_step.specs.tsb_plan.declared.object.Object.TheVariants.{PhaseMinimumGreen, PhaseMaximum1, PhaseYellowChange, PhaseRedClear, PatternOffsetTime, SplitCoordPhase, CoordForceMode, CoordMaximumMode}
use Rattle.tsb_step.specs.tsb_plan.Objects.{greatest}
use Rattle.tsb_step.specs.tsb_plan.Plan.{Plan, all_counts, walk, pedestrian_clear, with_values}
use Rattle.tsb_step.specs.tsb_plan.Quad.{quad}
use Rattle.tsb_step.specs.tsb_plan.Running.{floating_time, pattern_maximum}
use Rattle.tsb_step.specs.tsb_rules.Rules.{first_broken}
use Rattle.tsb_step.specs.tsb_phase.Phase.{held_of}
use Rattle.tsb_step.specs.tsb_phase.DynamicMaximum.{maximum_in_use}
use Rattle.tsb_step.specs.tsb_phase.Green.{conflict_timer, initial_has_passed}
use Rattle.tsb_step.specs.tsb_phase.Pedestrian.{pedestrian_now}
use Rattle.tsb_step.specs.declared.inputs.Input.{Input}
use Rattle.tsb_step.specs.declared.inputs.Input.TheVariants.{Tick, Pattern}
use Rattle.tsb_step.specs.State.{State, interval}
use Rattle.tsb_step.specs.Tick.{service, runs, forced, conflict, phases_given, phase_read, ready}
use Rattle.tsb_step.specs.Runs.{replay, AreTaken}
use Rattle.tsb_step.specs.Laws.{IsConsistent, is_unlit}
use Rattle.tsb_step.proofs.Examples.Scenes.{opened}
use Rattle.tsb_laws.specs.Stretches.{IsUntripped}
use Rattle.tsb_laws.specs.ServedCalls.{longest_initial}
use Rattle.tsb_laws.specs.GreenEnds.{HasFloated, green_for}
use Rattle.tsb_laws.specs.CoordinatedGreens.{is_pressed_in_pattern}
use Rattle.tsb_laws.specs.PatternEnds.{LacksOnlyItsEnd, HasWaitedInPattern, HasMaxedInPattern}
use Rattle.tsb_laws.proofs.safety.Examples.PlanFits.{Fits, values_fit, quad_fits, consistent}
use Rattle.tsb_laws.proofs.safety.Examples.TickRuns.{ticks, now_then, all_taken, dark_then, none_trips}
use Rattle.tsb_laws.proofs.safety.Examples.StretchRuns.{gone, goes_on}

abbrev pub started : List Input
started = Tick all_off ∷ Pattern 1 ∷ []

-- so many ticks later
abbrev pub since_then : Row → ℕ → List Input
since_then row n = ticks row n ++ started

-- a green that lacks only its end, in one tick
pub record AGreen (plan : Plan) (is : List Input) (row : Row) (p : ℕ) : Type 0 where
  pub consistent : IsConsistent plan
  pub few : plan.phase_count ≤ 16
  pub taken : AreTaken plan is
  pub untripped : (replay plan is).trip ≡ None
  pub green : LacksOnlyItsEnd (replay plan is) row p

-- and one that has waited for so long
pub record AWait (plan : Plan) (base later : List Input) (row : Row) (p n : ℕ) : Type 0 where
  pub consistent : IsConsistent plan
  pub few : plan.phase_count ≤ 16
  pub taken : AreTaken plan (later ++ base)
  pub untripped : IsUntripped plan base later
  pub waited : HasWaitedInPattern plan base later row p n

-- what a state says of a green of 6, and whether it is ready
abbrev pub Ends : Type 0
Ends = Interval × Bool × Option ℕ × Bool × PedestrianInterval × Bool

abbrev pub ends : Row → State → Ends
ends row s = (
  interval s 6,
  conflict s row 6,
  service s row,
  initial_has_passed s.plan (phases_given s row) 6 (held_of (phase_read s 6)),
  pedestrian_now s.plan (phases_given s row) 6 (phase_read s 6),
  ready s row 6,
)

pub lacks_its_end : (row : Row) (s : State) (is_ready : Bool) → ends row s ≡ (Green, true, None, true, DontWalk, is_ready) → LacksOnlyItsEnd s row 6
lacks_its_end row s is_ready h = record {
  green = ap (λ (x : Ends). x.0) h;
  conflict = ap (λ (x : Ends). x.1) h;
  quiet = ap (λ (x : Ends). x.2) h;
  initial = ap (λ (x : Ends). x.3) h;
  dont_walk = ap (λ (x : Ends). x.4) h;
}

-- ## 6 has lasted its split less yellow change and red clearance, which are 10 ticks: 4 and 8 are coordinated. In each of these
-- plans 6 has a minimum green of 10 ticks, and 2 one of 50, for which 6 waits at the barrier

-- the instant of 6 is 151 and that of 8 is 760; local 782 is the second tick of pattern 1
abbrev cycle_values : List (Object × ℕ × ℕ)
cycle_values =
    (SplitCoordPhase, 2, 0) ∷ (SplitCoordPhase, 4, 1) ∷ (SplitCoordPhase, 6, 0) ∷ (SplitCoordPhase, 8, 1) ∷
    (PatternOffsetTime, 1, 2) ∷ (PhaseMinimumGreen, 6, 1) ∷ (PhaseYellowChange, 6, 190) ∷ (PhaseRedClear, 6, 50) ∷ []

abbrev floating_values : List (Object × ℕ × ℕ)
floating_values = (CoordForceMode, 1, 2) ∷ cycle_values

unfoldable floating : Plan
floating = with_values quad floating_values

floating_fits : Fits greatest floating.value
unfolding floating
floating_fits = values_fit greatest floating_values quad refl (quad_fits greatest refl refl)

floating_count : (floating.phase_count ≡ 16) × (floating.counts ≡ all_counts)
unfolding quad floating
floating_count = (refl, refl)

floating_breaks_none : first_broken floating ≡ None
unfolding opened floating
floating_breaks_none = refl

floating_consistent : IsConsistent floating
floating_consistent = consistent greatest floating floating_count floating_breaks_none floating_fits

floating_taken : AreTaken floating started
unfolding opened floating
floating_taken = ((tt, refl), refl)

floating_unlit : is_unlit floating started ≡ true
floating_unlit = refl

floating_ticked : (replay floating started).now ≡ 1
unfolding opened floating
floating_ticked = refl

floating_in_time : (replay floating started).now + 10 ≤ 1000
floating_in_time = let at = floating_ticked in omega (arith, at)

floating_taken_10 : AreTaken floating (since_then all_off 10)
floating_taken_10 = all_taken floating all_off started 10 floating_taken floating_in_time

floating_untripped : IsUntripped floating started (ticks all_off 10)
floating_untripped = none_trips floating all_off started floating_consistent floating_taken floating_unlit 10 floating_in_time

abbrev by_the_cycle : State → ℕ → Bool
by_the_cycle s p = forced s p

-- how long its split lets it be Green, and whether a force-off by the cycle alone has come
abbrev floats : State → Option ℕ × Bool
floats s = (floating_time s.plan (runs s) 6, by_the_cycle s 6)

floats_then : floats (replay floating (since_then all_off 10)) ≡ (Some 10, false)
unfolding opened floating
floats_then = refl

floats_for_10 : floating_time (replay floating (since_then all_off 10)).plan (runs (replay floating (since_then all_off 10))) 6 ≡ Some 10
floats_for_10 = ap (λ (x : Option ℕ × Bool). x.0) floats_then

would_not_be_forced : by_the_cycle (replay floating (since_then all_off 10)) 6 ≡ false
would_not_be_forced = ap (λ (x : Option ℕ × Bool). x.1) floats_then

green_for_11 : green_for floating 6 (since_then all_off 10) ≡ 11
unfolding opened floating
green_for_11 = refl

has_floated : HasFloated floating 6 (since_then all_off 10)
has_floated = record { time = 10; floating = floats_for_10; long = (let at = green_for_11 in omega (arith, at)) }

floating_ends : ends all_off (replay floating (since_then all_off 10)) ≡ (Green, true, None, true, DontWalk, true)
unfolding opened floating
floating_ends = refl

is_ready_6 : ready (replay floating (since_then all_off 10)) all_off 6 ≡ true
is_ready_6 = ap (λ (x : Ends). x.5) floating_ends

a_floating_green : AGreen floating (since_then all_off 10) all_off 6
a_floating_green = record {
  consistent = floating_consistent;
  few = (let count = floating_count.0 in omega (arith, count));
  taken = floating_taken_10;
  untripped = dark_then floating all_off started floating_consistent floating_taken floating_unlit 10 floating_in_time;
  green = lacks_its_end all_off (replay floating (since_then all_off 10)) true floating_ends;
}

floating_pressed : (gone (is_pressed_in_pattern 6) (replay floating started) (ticks all_off 11)).1 ≡ true
unfolding opened floating
floating_pressed = refl

floating_initial_10 : longest_initial (replay floating started).plan 6 ≡ 10
unfolding opened floating
floating_initial_10 = refl

floating_walk_0 : walk (replay floating started).plan 6 + pedestrian_clear (replay floating started).plan 6 ≡ 0
unfolding opened floating
floating_walk_0 = refl

floating_not_ready : ready (replay floating (since_then all_off 8)) all_off 6 ≡ false
unfolding opened floating
floating_not_ready = refl

a_floating_wait : AWait floating started (ticks all_off 10) all_off 6 10
a_floating_wait = record {
  consistent = floating_consistent;
  few = (let count = floating_count.0 in omega (arith, count));
  taken = floating_taken_10;
  untripped = floating_untripped;
  waited = record {
    pressed = goes_on (is_pressed_in_pattern 6) floating started (ticks all_off 11) floating_pressed;
    initial = (let at = floating_initial_10 in omega (arith, at));
    walks = (let at = floating_walk_0 in omega (arith, at));
    long = (let at = now_then floating all_off started 10 in omega (arith, at));
  };
}

-- the same plan with mode 1, as if 2 were not read: in the same run 6 is not ready in time
unfoldable late : Plan
late = with_values quad ((CoordForceMode, 1, 1) ∷ cycle_values)

would_not_be_ready : ready (replay late (since_then all_off 10)) all_off 6 ≡ false
unfolding opened late
would_not_be_ready = refl

-- ## A conflict of 6 has stood for its phaseMaximum1, which is 1 s: 4 and 8 are coordinated

-- the instant of 6 is 360, and local 402 is the second tick of pattern 1
abbrev demand_values : List (Object × ℕ × ℕ)
demand_values =
    (SplitCoordPhase, 2, 0) ∷ (SplitCoordPhase, 4, 1) ∷ (SplitCoordPhase, 6, 0) ∷ (SplitCoordPhase, 8, 1) ∷
    (PatternOffsetTime, 1, 40) ∷ (PhaseMinimumGreen, 6, 1) ∷ (PhaseMaximum1, 6, 1) ∷ []

abbrev maximal_values : List (Object × ℕ × ℕ)
maximal_values = (CoordMaximumMode, 1, 1) ∷ demand_values

unfoldable maximal : Plan
maximal = with_values quad maximal_values

maximal_fits : Fits greatest maximal.value
unfolding maximal
maximal_fits = values_fit greatest maximal_values quad refl (quad_fits greatest refl refl)

maximal_count : (maximal.phase_count ≡ 16) × (maximal.counts ≡ all_counts)
unfolding quad maximal
maximal_count = (refl, refl)

maximal_breaks_none : first_broken maximal ≡ None
unfolding opened maximal
maximal_breaks_none = refl

maximal_consistent : IsConsistent maximal
maximal_consistent = consistent greatest maximal maximal_count maximal_breaks_none maximal_fits

maximal_taken : AreTaken maximal started
unfolding opened maximal
maximal_taken = ((tt, refl), refl)

maximal_unlit : is_unlit maximal started ≡ true
maximal_unlit = refl

maximal_ticked : (replay maximal started).now ≡ 1
unfolding opened maximal
maximal_ticked = refl

maximal_in_time : (replay maximal started).now + 10 ≤ 1000
maximal_in_time = let at = maximal_ticked in omega (arith, at)

maximal_taken_10 : AreTaken maximal (since_then all_off 10)
maximal_taken_10 = all_taken maximal all_off started 10 maximal_taken maximal_in_time

-- maximums that act in free operation alone
abbrev free_alone : State → Row → ℕ → Bool
free_alone s row p =
    is_none (runs s)
    && has_reached (conflict_timer (phases_given s row) p (held_of (phase_read s p))) (maximum_in_use s.plan p (s.phases p).running_maximum)

maximum_ends : ends all_off (replay maximal (since_then all_off 10)) ≡ (Green, true, None, true, DontWalk, true)
unfolding opened maximal
maximum_ends = refl

-- the pattern that runs, whether the conflict has stood for 10 ticks, and what the mistake makes of it
abbrev maxes : State → Option ℕ × Bool × Bool
maxes s = (runs s, has_reached (conflict_timer (phases_given s all_off) 6 (held_of (phase_read s 6))) 10, free_alone s all_off 6)

maxes_then : maxes (replay maximal (since_then all_off 10)) ≡ (Some 1, true, false)
unfolding opened maximal
maxes_then = refl

acts_then : pattern_maximum (replay maximal (since_then all_off 10)).plan (Some 1) 6 ≡ Some 10
unfolding opened maximal
acts_then = refl

is_maxed : HasMaxedInPattern (replay maximal (since_then all_off 10)) all_off 6
is_maxed = record {
  number = 1;
  runs = ap (λ (x : Option ℕ × Bool × Bool). x.0) maxes_then;
  maximum = 10;
  acts = acts_then;
  long = ap (λ (x : Option ℕ × Bool × Bool). x.1) maxes_then;
}

would_not_max_out : free_alone (replay maximal (since_then all_off 10)) all_off 6 ≡ false
would_not_max_out = ap (λ (x : Option ℕ × Bool × Bool). x.2) maxes_then

a_maximum_green : AGreen maximal (since_then all_off 10) all_off 6
a_maximum_green = record {
  consistent = maximal_consistent;
  few = (let count = maximal_count.0 in omega (arith, count));
  taken = maximal_taken_10;
  untripped = dark_then maximal all_off started maximal_consistent maximal_taken maximal_unlit 10 maximal_in_time;
  green = lacks_its_end all_off (replay maximal (since_then all_off 10)) true maximum_ends;
}

maximal_pressed : (gone (is_pressed_in_pattern 6) (replay maximal started) (ticks all_off 11)).1 ≡ true
unfolding opened maximal
maximal_pressed = refl

maximal_initial_10 : longest_initial (replay maximal started).plan 6 ≡ 10
unfolding opened maximal
maximal_initial_10 = refl

maximal_walk_0 : walk (replay maximal started).plan 6 + pedestrian_clear (replay maximal started).plan 6 ≡ 0
unfolding opened maximal
maximal_walk_0 = refl

acts_for_10 : pattern_maximum (replay maximal started).plan (runs (replay maximal started)) 6 ≡ Some 10
unfolding opened maximal
acts_for_10 = refl

maximal_not_ready : ready (replay maximal (since_then all_off 8)) all_off 6 ≡ false
unfolding opened maximal
maximal_not_ready = refl

a_maximum_wait : AWait maximal started (ticks all_off 10) all_off 6 10
a_maximum_wait = record {
  consistent = maximal_consistent;
  few = (let count = maximal_count.0 in omega (arith, count));
  taken = maximal_taken_10;
  untripped = none_trips maximal all_off started maximal_consistent maximal_taken maximal_unlit 10 maximal_in_time;
  waited = record {
    pressed = goes_on (is_pressed_in_pattern 6) maximal started (ticks all_off 11) maximal_pressed;
    initial = (let at = maximal_initial_10 in omega (arith, at));
    walks = (let at = maximal_walk_0 in omega (arith, at));
    long = (let at = now_then maximal all_off started 10 in omega (arith, at));
  };
}

-- the same plan with maximum mode 0, as if 1 were not read: in the same run 6 is not ready in time
unfoldable demanded : Plan
demanded = with_values quad demand_values

would_be_held : ready (replay demanded (since_then all_off 10)) all_off 6 ≡ false
unfolding opened demanded
would_be_held = refl
