-- A run from power-up that meets all premises of the laws of late greens, and a mistake that these laws refuse.
use Rattle.std.proofs.Common.{◌≡◌, ℕ, ◌+◌, ◌≤◌, Bool, true, false, List, [], ◌∷◌, ◌++◌, Some, None, refl, ap, arith}
use Rattle.tsb_step.specs.tsb_types.declared.interval.Interval.TheVariants.{Green}
use Rattle.tsb_step.specs.tsb_types.declared.interval.PedestrianInterval.TheVariants.{DontWalk}
use Rattle.tsb_step.specs.tsb_types.Sets.{all_off}
use Rattle.tsb_step.specs.tsb_types.declared.row.Row.{Row}
use Rattle.tsb_step.specs.tsb_plan.declared.object.Object.{Object}
use Rattle.tsb_step.specs.tsb_plan.declared.object.Object.TheVariants.{PhaseMinimumGreen, PatternOffsetTime, SplitCoordPhase, CoordForceMode}
use Rattle.tsb_step.specs.tsb_plan.Objects.{greatest}
use Rattle.tsb_step.specs.tsb_plan.Parts.{cycle, forces_late}
use Rattle.tsb_step.specs.tsb_plan.Plan.{Plan, all_counts, walk, pedestrian_clear, with_values}
use Rattle.tsb_step.specs.tsb_plan.Quad.{quad}
use Rattle.tsb_step.specs.tsb_rules.Rules.{first_broken}
use Rattle.tsb_step.specs.tsb_coord.Coordinated.{counter, force_off, yields_to, counted_on, is_from_to}
use Rattle.tsb_step.specs.tsb_coord.Correction.{counted_tick}
use Rattle.tsb_step.specs.declared.inputs.Input.{Input}
use Rattle.tsb_step.specs.declared.inputs.Input.TheVariants.{Tick, Pattern}
use Rattle.tsb_step.specs.State.{State}
use Rattle.tsb_step.specs.Tick.{runs, hold, at_force_off, conflict, ready}
use Rattle.tsb_step.specs.Runs.{replay, AreTaken}
use Rattle.tsb_step.specs.Laws.{IsConsistent, is_unlit}
use Rattle.tsb_step.proofs.Examples.Scenes.{opened}
use Rattle.tsb_laws.specs.Stretches.{IsUntripped}
use Rattle.tsb_laws.specs.ServedCalls.{longest_initial}
use Rattle.tsb_laws.specs.CoordinatedGreens.{HasGoneOn, is_pressed_in_pattern}
use Rattle.tsb_laws.specs.LateGreens.{IsInLateSpan, IsLateGreen}
use Rattle.tsb_laws.specs.PatternEnds.{LacksOnlyItsEnd}
use Rattle.tsb_laws.proofs.safety.Examples.PlanFits.{Fits, values_fit, quad_fits, consistent}
use Rattle.tsb_laws.proofs.safety.Examples.TickRuns.{ticks, now_then, all_taken, none_trips}
use Rattle.tsb_laws.proofs.safety.Examples.StretchRuns.{gone, goes_on}
use Rattle.tsb_laws.proofs.operation.Examples.PatternEndRuns.{Ends, ends, lacks_its_end}

-- ## 6 begins after its instant: 4 and 8 are coordinated, and local 401 is the first tick of pattern 1. 6 has a minimum green
-- of 10 ticks, and 2 one of 50, for which 6 waits at the barrier

-- the instant of 6 is 360, and that of 8 is 760
abbrev held_values : List (Object × ℕ × ℕ)
held_values =
    (SplitCoordPhase, 2, 0) ∷ (SplitCoordPhase, 4, 1) ∷ (SplitCoordPhase, 6, 0) ∷ (SplitCoordPhase, 8, 1) ∷
    (PatternOffsetTime, 1, 40) ∷ (PhaseMinimumGreen, 6, 1) ∷ []

abbrev late_values : List (Object × ℕ × ℕ)
late_values = (CoordForceMode, 1, 1) ∷ held_values

unfoldable late : Plan
late = with_values quad late_values

late_fits : Fits greatest late.value
unfolding late
late_fits = values_fit greatest late_values quad refl (quad_fits greatest refl refl)

late_count : (late.phase_count ≡ 16) × (late.counts ≡ all_counts)
unfolding quad late
late_count = (refl, refl)

late_breaks_none : first_broken late ≡ None
unfolding opened late
late_breaks_none = refl

late_consistent : IsConsistent late
late_consistent = consistent greatest late late_count late_breaks_none late_fits

abbrev started : List Input
started = Tick all_off ∷ Pattern 1 ∷ []

taken : AreTaken late started
unfolding opened late
taken = ((tt, refl), refl)

dark : (replay late started).trip ≡ None
unfolding opened late
dark = refl

is_late : forces_late (replay late started).plan ≡ true
unfolding opened late
is_late = refl

runs_1 : runs (replay late started) ≡ Some 1
unfolding opened late
runs_1 = refl

is_not_held : hold (replay late started) 6 ≡ false
unfolding opened late
is_not_held = refl

own_360 : force_off (replay late started).plan (Some 1) 6 ≡ Some 360
unfolding opened late
own_360 = refl

yields_to_8 : yields_to (replay late started).plan 1 6 ≡ Some 8
unfolding opened late
yields_to_8 = refl

until_760 : force_off (replay late started).plan (Some 1) 8 ≡ Some 760
unfolding opened late
until_760 = refl

abbrev next_counted_tick : State → ℕ
next_counted_tick s = counted_tick s.plan s.pattern s.correction (s.now + 1)

is_within : is_from_to (cycle (replay late started).plan 1) (counter (replay late started).plan 1 (next_counted_tick (replay late started))) 360
    (counted_on (cycle (replay late started).plan 1) 360 760) ≡ true
unfolding opened late
is_within = refl

in_span : IsInLateSpan (replay late started) 6
in_span = record {
  late = is_late;
  number = 1;
  runs = runs_1;
  other = is_not_held;
  instant = 360;
  own = own_360;
  coordinated = 8;
  yields = yields_to_8;
  limit = 760;
  until = until_760;
  within = is_within;
}

-- ## Over ticks: 6 is ready in the tick after 10 with a conflict, as its minimum green has passed, and not in the second before

-- the run so many ticks later
abbrev run : ℕ → List Input
run n = ticks all_off n ++ started

unlit : is_unlit late started ≡ true
unlit = refl

ticked_1 : (replay late started).now ≡ 1
unfolding opened late
ticked_1 = refl

in_time : (replay late started).now + 10 ≤ 1000
in_time = let at = ticked_1 in omega (arith, at)

taken_10 : AreTaken late (run 10)
taken_10 = all_taken late all_off started 10 taken in_time

pressed : (gone (is_pressed_in_pattern 6) (replay late started) (ticks all_off 11)).1 ≡ true
unfolding opened late
pressed = refl

initial_10 : longest_initial (replay late started).plan 6 ≡ 10
unfolding opened late
initial_10 = refl

walk_0 : walk (replay late started).plan 6 + pedestrian_clear (replay late started).plan 6 ≡ 0
unfolding opened late
walk_0 = refl

is_not_ready_yet : ready (replay late (run 8)) all_off 6 ≡ false
unfolding opened late
is_not_ready_yet = refl

late_ends : ends all_off (replay late (run 10)) ≡ (Green, true, None, true, DontWalk, true)
unfolding opened late
late_ends = refl

is_ready : ready (replay late (run 10)) all_off 6 ≡ true
is_ready = ap (λ (x : Ends). x.5) late_ends

record LateWait (plan : Plan) (base later : List Input) (row : Row) (p n : ℕ) : Type 0 where
  consistent : IsConsistent plan
  few : plan.phase_count ≤ 16
  taken : AreTaken plan (later ++ base)
  untripped : IsUntripped plan base later
  pressed : HasGoneOn (is_pressed_in_pattern p) plan base (Tick row ∷ later)
  span : IsInLateSpan (replay plan base) p
  initial : longest_initial (replay plan base).plan p ≤ n
  walks : walk (replay plan base).plan p + pedestrian_clear (replay plan base).plan p ≤ n
  long : (replay plan base).now + n ≤ (replay plan (later ++ base)).now

a_late_wait : LateWait late started (ticks all_off 10) all_off 6 10
a_late_wait = record {
  consistent = late_consistent;
  few = (let count = late_count.0 in omega (arith, count));
  taken = taken_10;
  untripped = none_trips late all_off started late_consistent taken unlit 10 in_time;
  pressed = goes_on (is_pressed_in_pattern 6) late started (ticks all_off 11) pressed;
  span = in_span;
  initial = (let at = initial_10 in omega (arith, at));
  walks = (let at = walk_0 in omega (arith, at));
  long = (let at = now_then late all_off started 10 in omega (arith, at));
}

-- ## In one tick: the last of these

span_then : IsInLateSpan (replay late (run 10)) 6
unfolding opened late
span_then = record {
  late = refl;
  number = 1;
  runs = refl;
  other = refl;
  instant = 360;
  own = refl;
  coordinated = 8;
  yields = refl;
  limit = 760;
  until = refl;
  within = refl;
}

record LateGreen (plan : Plan) (is : List Input) (row : Row) (p : ℕ) : Type 0 where
  consistent : IsConsistent plan
  few : plan.phase_count ≤ 16
  taken : AreTaken plan is
  green : IsLateGreen (replay plan is) row p

lacks_its_end_alone : LacksOnlyItsEnd (replay late (run 10)) all_off 6
lacks_its_end_alone = lacks_its_end all_off (replay late (run 10)) true late_ends

lacks_nothing : IsLateGreen (replay late (run 10)) all_off 6
lacks_nothing = record {
  green = lacks_its_end_alone.green;
  span = span_then;
  conflict = lacks_its_end_alone.conflict;
  quiet = lacks_its_end_alone.quiet;
  initial = lacks_its_end_alone.initial;
  dont_walk = lacks_its_end_alone.dont_walk;
}

a_late_green : LateGreen late (run 10) all_off 6
a_late_green = record {
  consistent = late_consistent;
  few = (let count = late_count.0 in omega (arith, count));
  taken = taken_10;
  green = lacks_nothing;
}

-- ## Force-off at the instant alone

abbrev at_instant : State → ℕ → Bool
at_instant s p = at_force_off s p

would_not_be_forced : at_instant (replay late (run 10)) 6 ≡ false
unfolding opened late
would_not_be_forced = refl

-- the same plan with mode 0, by which 6 is held until its instant comes again: as if the mode were not read. In the same run 6
-- is not ready once its minimum green has passed
unfoldable held : Plan
held = with_values quad held_values

would_not_be_ready : ready (replay held (run 10)) all_off 6 ≡ false
unfolding opened held
would_not_be_ready = refl
