-- A run from power-up that meets all premises of the laws of greens that end in their permissive time, and mistakes that these
-- laws refuse.
use Rattle.std.proofs.Common.{◌≡◌, ℕ, ◌+◌, ◌≤◌, Bool, true, false, List, [], ◌∷◌, Option, Some, None, refl, ap, arith, inl}
use Rattle.tsb_step.specs.tsb_types.declared.interval.Interval.TheVariants.{Green}
use Rattle.tsb_step.specs.tsb_types.declared.interval.PedestrianInterval.TheVariants.{DontWalk}
use Rattle.tsb_step.specs.tsb_types.declared.row.Row.{Row}
use Rattle.tsb_step.specs.tsb_plan.declared.object.Object.{Object}
use Rattle.tsb_step.specs.tsb_plan.declared.object.Object.TheVariants.{PhaseMinimumGreen, PatternOffsetTime, PatternPermissiveTime}
use Rattle.tsb_step.specs.tsb_plan.Objects.{greatest}
use Rattle.tsb_step.specs.tsb_plan.Parts.{permissive_time}
use Rattle.tsb_step.specs.tsb_plan.Plan.{Plan, all_counts, walk, pedestrian_clear, with_values}
use Rattle.tsb_step.specs.tsb_plan.Quad.{quad}
use Rattle.tsb_step.specs.tsb_rules.Rules.{first_broken}
use Rattle.tsb_step.specs.tsb_coord.Coordinated.{force_off}
use Rattle.tsb_step.specs.declared.inputs.Input.{Input}
use Rattle.tsb_step.specs.State.{State}
use Rattle.tsb_step.specs.Tick.{runs, hold, at_force_off, ready}
use Rattle.tsb_step.specs.Runs.{replay, AreTaken}
use Rattle.tsb_step.specs.Laws.{IsConsistent, is_unlit}
use Rattle.tsb_step.proofs.Examples.Scenes.{opened, vehicle}
use Rattle.tsb_laws.specs.ServedCalls.{longest_initial}
use Rattle.tsb_laws.specs.CoordinatedGreens.{is_pressed_in_pattern}
use Rattle.tsb_laws.specs.PatternEnds.{next_counter, IsInPermissiveTime}
use Rattle.tsb_laws.proofs.safety.Examples.PlanFits.{Fits, values_fit, quad_fits, consistent}
use Rattle.tsb_laws.proofs.safety.Examples.TickRuns.{ticks, now_then, all_taken, dark_then, none_trips}
use Rattle.tsb_laws.proofs.safety.Examples.StretchRuns.{gone, goes_on}
use Rattle.tsb_laws.proofs.operation.Examples.PatternEndRuns.{started, since_then, AGreen, AWait, ends, lacks_its_end}

-- ## 8 is called 12 ticks after the instant of 6, which is coordinated: the permissive time is 5 s

-- the instant of 6 is 760, and local 772 is the second tick of pattern 1
abbrev instant_values : List (Object × ℕ × ℕ)
instant_values = (PatternOffsetTime, 1, 3) ∷ (PhaseMinimumGreen, 6, 1) ∷ []

abbrev permitting_values : List (Object × ℕ × ℕ)
permitting_values = (PatternPermissiveTime, 1, 5) ∷ instant_values

unfoldable permitting : Plan
permitting = with_values quad permitting_values

permitting_fits : Fits greatest permitting.value
unfolding permitting
permitting_fits = values_fit greatest permitting_values quad refl (quad_fits greatest refl refl)

permitting_count : (permitting.phase_count ≡ 16) × (permitting.counts ≡ all_counts)
unfolding quad permitting
permitting_count = (refl, refl)

permitting_breaks_none : first_broken permitting ≡ None
unfolding opened permitting
permitting_breaks_none = refl

permitting_consistent : IsConsistent permitting
permitting_consistent = consistent greatest permitting permitting_count permitting_breaks_none permitting_fits

permitting_taken : AreTaken permitting started
unfolding opened permitting
permitting_taken = ((tt, refl), refl)

permitting_unlit : is_unlit permitting started ≡ true
permitting_unlit = refl

permitting_ticked : (replay permitting started).now ≡ 1
unfolding opened permitting
permitting_ticked = refl

permitting_in_time : (replay permitting started).now + 10 ≤ 1000
permitting_in_time = let at = permitting_ticked in omega (arith, at)

permitting_taken_10 : AreTaken permitting (since_then (vehicle 8) 10)
permitting_taken_10 = all_taken permitting (vehicle 8) started 10 permitting_taken permitting_in_time

permitted_ends : ends (vehicle 8) (replay permitting (since_then (vehicle 8) 10)) ≡ (Green, true, None, true, DontWalk, true)
unfolding opened permitting
permitted_ends = refl

runs_1 : runs (replay permitting started) ≡ Some 1
unfolding opened permitting
runs_1 = refl

is_held_6 : hold (replay permitting started) 6 ≡ true
unfolding opened permitting
is_held_6 = refl

permits_50 : permissive_time (replay permitting started).plan 1 ≡ 50
unfolding opened permitting
permits_50 = refl

own_760 : force_off (replay permitting started).plan (Some 1) 6 ≡ Some 760
unfolding opened permitting
own_760 = refl

comes_at_772 : next_counter (replay permitting started) 1 ≡ 772
unfolding opened permitting
comes_at_772 = refl

is_permitted_6 : IsInPermissiveTime (replay permitting started) 6
is_permitted_6 = record {
  number = 1;
  runs = runs_1;
  held = is_held_6;
  some = (let at = permits_50 in omega (arith, at));
  instant = 760;
  own = own_760;
  within = inl ((let here = comes_at_772 in omega (arith, here)), (let at = permits_50 in let here = comes_at_772 in omega (arith, at, here)));
}

permitting_pressed : (gone (is_pressed_in_pattern 6) (replay permitting started) (ticks (vehicle 8) 11)).1 ≡ true
unfolding opened permitting
permitting_pressed = refl

permitting_initial_10 : longest_initial (replay permitting started).plan 6 ≡ 10
unfolding opened permitting
permitting_initial_10 = refl

permitting_walk_0 : walk (replay permitting started).plan 6 + pedestrian_clear (replay permitting started).plan 6 ≡ 0
unfolding opened permitting
permitting_walk_0 = refl

permitting_not_ready : ready (replay permitting (since_then (vehicle 8) 8)) (vehicle 8) 6 ≡ false
unfolding opened permitting
permitting_not_ready = refl

a_permitted_wait : AWait permitting started (ticks (vehicle 8) 10) (vehicle 8) 6 10
a_permitted_wait = record {
  consistent = permitting_consistent;
  few = (let count = permitting_count.0 in omega (arith, count));
  taken = permitting_taken_10;
  untripped = none_trips permitting (vehicle 8) started permitting_consistent permitting_taken permitting_unlit 10 permitting_in_time;
  waited = record {
    pressed = goes_on (is_pressed_in_pattern 6) permitting started (ticks (vehicle 8) 11) permitting_pressed;
    initial = (let at = permitting_initial_10 in omega (arith, at));
    walks = (let at = permitting_walk_0 in omega (arith, at));
    long = (let at = now_then permitting (vehicle 8) started 10 in omega (arith, at));
  };
}

-- force-off at the instant alone
abbrev at_instant_alone : State → ℕ → Bool
at_instant_alone s p = at_force_off s p

-- the pattern that runs, whether 6 is held, the counter of the next tick, and whether 6 is forced off by the mistake
abbrev Permits : Type 0
Permits = Option ℕ × Bool × ℕ × Bool

abbrev permits : State → Permits
permits s = (runs s, hold s 6, next_counter s 1, at_instant_alone s 6)

-- in the last of these ticks it is still in its permissive time
permits_then : permits (replay permitting (since_then (vehicle 8) 10)) ≡ (Some 1, true, 782, false)
unfolding opened permitting
permits_then = refl

at_782 : next_counter (replay permitting (since_then (vehicle 8) 10)) 1 ≡ 782
at_782 = ap (λ (x : Permits). x.2) permits_then

would_miss_the_call : at_instant_alone (replay permitting (since_then (vehicle 8) 10)) 6 ≡ false
would_miss_the_call = ap (λ (x : Permits). x.3) permits_then

record PermittedThen : Type 0 where
  permits : permissive_time (replay permitting (since_then (vehicle 8) 10)).plan 1 ≡ 50
  own : force_off (replay permitting (since_then (vehicle 8) 10)).plan (Some 1) 6 ≡ Some 760

permitted_then : PermittedThen
unfolding opened permitting
permitted_then = record { permits = refl; own = refl }

is_permitted_then : IsInPermissiveTime (replay permitting (since_then (vehicle 8) 10)) 6
is_permitted_then = record {
  number = 1;
  runs = ap (λ (x : Permits). x.0) permits_then;
  held = ap (λ (x : Permits). x.1) permits_then;
  some = (let at = permitted_then.permits in omega (arith, at));
  instant = 760;
  own = permitted_then.own;
  within = inl ((let here = at_782 in omega (arith, here)), (let at = permitted_then.permits in let here = at_782 in omega (arith, at, here)));
}

record APermitted (plan : Plan) (is : List Input) (row : Row) (p : ℕ) : Type 0 where
  lacks : AGreen plan is row p
  permitted : IsInPermissiveTime (replay plan is) p

a_permitted_green : APermitted permitting (since_then (vehicle 8) 10) (vehicle 8) 6
a_permitted_green = record {
  lacks = record {
    consistent = permitting_consistent;
    few = (let count = permitting_count.0 in omega (arith, count));
    taken = permitting_taken_10;
    untripped = dark_then permitting (vehicle 8) started permitting_consistent permitting_taken permitting_unlit 10 permitting_in_time;
    green = lacks_its_end (vehicle 8) (replay permitting (since_then (vehicle 8) 10)) true permitted_ends;
  };
  permitted = is_permitted_then;
}

-- the same plan without a permissive time, as if it were not read: in the same run 6 is not ready in time
unfoldable strict : Plan
strict = with_values quad instant_values

would_wait_a_cycle : ready (replay strict (since_then (vehicle 8) 10)) (vehicle 8) 6 ≡ false
unfolding opened strict
would_wait_a_cycle = refl
