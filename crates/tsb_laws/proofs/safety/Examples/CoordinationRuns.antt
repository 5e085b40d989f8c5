-- Runs from power-up that meet all premises of a law at once: of coordinated greens, of omitted phases, of greens that clear in
-- time, and of trips.
use Rattle.std.proofs.Common.{◌≡◌, ℕ, ◌+◌, ◌≤◌, Bool, true, false, List, [], ◌∷◌, Some, None, is_some, refl, sym, arith, ◌∙◌}
use Rattle.tsb_step.specs.tsb_types.Sets.{all_off}
use Rattle.tsb_step.specs.tsb_types.declared.interval.Interval.TheVariants.{Green, Yellow, Red}
use Rattle.tsb_step.specs.tsb_types.declared.lamp.Lamp.TheVariants as lamps
use Rattle.tsb_step.specs.tsb_types.declared.lamp.SignalColor.TheVariants as signals
use Rattle.tsb_step.specs.tsb_types.declared.row.Row.{Row}
use Rattle.tsb_step.specs.tsb_plan.declared.object.Object.{Object}
use Rattle.tsb_step.specs.tsb_plan.declared.object.Object.TheVariants.{PhaseMinRecall, PhaseMinimumGreen, PhaseYellowChange, PatternOffsetTime, SplitMode, CoordCorrectionMode, CoordCorrectionLimit}
use Rattle.tsb_step.specs.tsb_plan.Objects.{greatest}
use Rattle.tsb_step.specs.tsb_plan.Plan.{Plan, all_counts, is_enabled, with_values}
use Rattle.tsb_step.specs.tsb_plan.Quad.{quad}
use Rattle.tsb_step.specs.tsb_rules.Rules.{first_broken}
use Rattle.tsb_step.specs.tsb_coord.Coordinated.{force_off, is_at_force_off}
use Rattle.tsb_step.specs.tsb_coord.Correction.{counted_tick}
use Rattle.tsb_step.specs.tsb_phase.ClearanceLaws.{clearance}
use Rattle.tsb_step.specs.tsb_ring.Rings.{Ring1}
use Rattle.tsb_step.specs.tsb_ring.Moves.{is_ended}
use Rattle.tsb_step.specs.declared.inputs.Input.{Input}
use Rattle.tsb_step.specs.declared.inputs.Input.TheVariants.{Tick, Pattern, Fault, Reset}
use Rattle.tsb_step.specs.State.{State, interval}
use Rattle.tsb_step.specs.Signs.{local}
use Rattle.tsb_step.specs.Tick.{service, hold, forced, at_force_off, omitted, moves}
use Rattle.tsb_step.specs.Runs.{replay, AreTaken}
use Rattle.tsb_step.specs.Laws.{IsConsistent, is_unlit}
use Rattle.tsb_step.specs.ClearanceLaws.{EndsNow, IsForcedOff}
use Rattle.tsb_step.proofs.Examples.Scenes.{opened, vehicle}
use Rattle.tsb_laws.specs.Coordination.{in_permissive_time, was_forced_off}
use Rattle.tsb_laws.specs.Stretches.{EndsGreen, StartsGreen}
use Rattle.tsb_laws.proofs.safety.Examples.PlanFits.{Fits, values_fit, quad_fits, consistent, quad_consistent}
use Rattle.tsb_laws.proofs.safety.Examples.TickRuns.{dark_after}

-- ## A coordinated green that is forced off: pattern 1 is at local 752 in the second tick, in which 1 is called

abbrev early_values : List (Object × ℕ × ℕ)
early_values = (PhaseYellowChange, 2, 38) ∷ (PhaseYellowChange, 6, 38) ∷ (PatternOffsetTime, 1, 5) ∷ (PhaseMinimumGreen, 2, 0) ∷ []

unfoldable pub early : Plan
early = with_values quad early_values

early_fits : Fits greatest early.value
unfolding early
early_fits = values_fit greatest early_values quad refl (quad_fits greatest refl refl)

early_count : (early.phase_count ≡ 16) × (early.counts ≡ all_counts)
unfolding quad early
early_count = (refl, refl)

early_breaks_none : first_broken early ≡ None
unfolding opened early
early_breaks_none = refl

pub early_consistent : IsConsistent early
early_consistent = consistent greatest early early_count early_breaks_none early_fits

abbrev pub selected : List Input
selected = Tick all_off ∷ Pattern 1 ∷ []

pub selected_taken : AreTaken early selected
unfolding opened early
selected_taken = ((tt, refl), refl)

selected_dark : (replay early selected).trip ≡ None
unfolding opened early
selected_dark = refl

pub selected_unlit : is_unlit early selected ≡ true
selected_unlit = refl

was_green : interval (replay early selected) 2 ≡ Green
unfolding opened early
was_green = refl

ends : interval (replay early (Tick (vehicle 1) ∷ selected)) 2 ≡ Yellow
unfolding opened early
ends = refl

is_held : hold (replay early selected) 2 ≡ true
unfolding opened early
is_held = refl

no_preempt : service (replay early selected) (vehicle 1) ≡ None
unfolding opened early
no_preempt = refl

is_forced : forced (replay early selected) 2 ≡ true
unfolding opened early
is_forced = refl

record Coordination (plan : Plan) (is : List Input) (row : Row) (p : ℕ) : Type 0 where
  consistent : IsConsistent plan
  few : plan.phase_count ≤ 16
  taken : AreTaken plan is
  untripped : (replay plan is).trip ≡ None
  ended : EndsGreen plan is row p
  held : hold (replay plan is) p ≡ true
  alone : service (replay plan is) row ≡ None

a_coordination : Coordination early selected (vehicle 1) 2
a_coordination = record {
  consistent = early_consistent;
  few = (let count = early_count.0 in omega (arith, count));
  taken = selected_taken;
  untripped = selected_dark;
  ended = record { was_green = was_green; ends = λ h. (let bad : Yellow ≡ Green = sym ends ∙ h in absurd cc) };
  held = is_held;
  alone = no_preempt;
}

-- ## The same green clears in time, and at local 0

abbrev pub now : State
now = replay early selected

pub is_on : is_enabled now.plan 2 ≡ true
unfolding opened early
is_on = refl

is_ended_now : is_ended (moves now (vehicle 1)) 2 ≡ true
unfolding opened early
is_ended_now = refl

pub clears_in_48 : clearance now.plan 2 ≡ 48
unfolding opened early
clears_in_48 = refl

pub ticked_1 : now.now ≡ 1
unfolding opened early
ticked_1 = refl

pub ends_now : EndsNow (replay early selected) (λ k. vehicle 1) 2
ends_now = record {
  enabled = is_on;
  ends = is_ended_now;
  untripped = λ k below.
      (let at = ticked_1 in let time = clears_in_48 in
      dark_after early (vehicle 1) selected early_consistent selected_taken selected_unlit k (omega (arith, at, time, below)));
}

forced_off : IsForcedOff (replay early selected) 1 2
unfolding opened early
forced_off = record { selected = refl; used = refl; coordinated = refl; in_step = refl; forced = refl }

-- ## A faster local counter: in tick 1 pattern 2 is selected, 700 ticks ahead, so that the short way is the faster one.
-- In the next tick, in which 1 is called, it takes two steps, from 751 to 753

abbrev faster_values : List (Object × ℕ × ℕ)
faster_values = (CoordCorrectionMode, 1, 2) ∷ (CoordCorrectionLimit, 1, 50) ∷ (PatternOffsetTime, 2, 75) ∷ early_values

unfoldable pub faster : Plan
faster = with_values quad faster_values

pub faster_fits : Fits greatest faster.value
unfolding faster
faster_fits = values_fit greatest faster_values quad refl (quad_fits greatest refl refl)

pub faster_count : (faster.phase_count ≡ 16) × (faster.counts ≡ all_counts)
unfolding quad faster
faster_count = (refl, refl)

pub faster_sides : faster.side_count ≡ 4
unfolding quad faster
faster_sides = refl

faster_breaks_none : first_broken faster ≡ None
unfolding opened faster
faster_breaks_none = refl

pub faster_consistent : IsConsistent faster
faster_consistent = consistent greatest faster faster_count faster_breaks_none faster_fits

abbrev pub selected_again : List Input
selected_again = Pattern 2 ∷ selected

pub again_taken : AreTaken faster selected_again
unfolding opened faster
again_taken = (((tt, refl), refl), refl)

again_dark : (replay faster selected_again).trip ≡ None
unfolding opened faster
again_dark = refl

pub is_ahead : (replay faster selected_again).correction ≡ record { since = 1; ahead = 700; midnight = 0 }
unfolding opened faster
is_ahead = refl

was_751 : local (replay faster selected_again) ≡ Some 751
unfolding opened faster
was_751 = refl

comes_to_753 : local (replay faster (Tick (vehicle 1) ∷ selected_again)) ≡ Some 753
unfolding opened faster
comes_to_753 = refl

instant_752 : force_off faster (Some 2) 2 ≡ Some 752
unfolding opened faster
instant_752 = refl

green_at_751 : interval (replay faster selected_again) 2 ≡ Green
unfolding opened faster
green_at_751 = refl

yellow_at_753 : interval (replay faster (Tick (vehicle 1) ∷ selected_again)) 2 ≡ Yellow
unfolding opened faster
yellow_at_753 = refl

held_again : hold (replay faster selected_again) 2 ≡ true
unfolding opened faster
held_again = refl

none_in_service : service (replay faster selected_again) (vehicle 1) ≡ None
unfolding opened faster
none_in_service = refl

a_faster_one : Coordination faster selected_again (vehicle 1) 2
a_faster_one = record {
  consistent = faster_consistent;
  few = (let count = faster_count.0 in omega (arith, count));
  taken = again_taken;
  untripped = again_dark;
  ended = record { was_green = green_at_751; ends = λ h. (let bad : Yellow ≡ Green = sym yellow_at_753 ∙ h in absurd cc) };
  held = held_again;
  alone = none_in_service;
}

-- it was at the instant with the first of the two steps, and nothing else forced phase 2 off
comes_there : at_force_off (replay faster selected_again) 2 ≡ true
unfolding opened faster
comes_there = refl

not_behind : in_permissive_time (replay faster selected_again) 2 ≡ false
unfolding opened faster
not_behind = refl

not_before : was_forced_off faster 2 selected_again ≡ false
unfolding opened faster
not_before = refl

-- a force-off where the local counter comes to, and not on its way there
abbrev where_it_comes_to : State → ℕ → Bool
where_it_comes_to s p = is_at_force_off s.plan (counted_tick s.plan s.pattern s.correction (s.now + 1)) s.pattern p

would_pass_it : where_it_comes_to (replay faster selected_again) 2 ≡ false
unfolding opened faster
would_pass_it = refl

-- ## An omitted phase that an older commitment starts: 3 is called, and pattern 1, by which split mode 5 omits it, is selected
-- while a crossing to it is under way

abbrev omits_values : List (Object × ℕ × ℕ)
omits_values = (PhaseMinRecall, 2, 0) ∷ (PhaseMinRecall, 6, 0) ∷ (SplitMode, 3, 5) ∷ []

unfoldable pub omits : Plan
omits = with_values quad omits_values

pub omits_fits : Fits greatest omits.value
unfolding omits
omits_fits = values_fit greatest omits_values quad refl (quad_fits greatest refl refl)

pub omits_count : (omits.phase_count ≡ 16) × (omits.counts ≡ all_counts)
unfolding quad omits
omits_count = (refl, refl)

pub omits_sides : omits.side_count ≡ 4
unfolding quad omits
omits_sides = refl

omits_breaks_none : first_broken omits ≡ None
unfolding opened omits
omits_breaks_none = refl

pub omits_consistent : IsConsistent omits
omits_consistent = consistent greatest omits omits_count omits_breaks_none omits_fits

abbrev crossing : List Input
crossing = Pattern 1 ∷ Tick (vehicle 3) ∷ []

crossing_taken : AreTaken omits crossing
unfolding opened omits
crossing_taken = ((tt, refl), refl)

crossing_dark : (replay omits crossing).trip ≡ None
unfolding opened omits
crossing_dark = refl

is_omitted : omitted (replay omits crossing) 3 ≡ true
unfolding opened omits
is_omitted = refl

is_alone : service (replay omits crossing) all_off ≡ None
unfolding opened omits
is_alone = refl

was_red : interval (replay omits crossing) 3 ≡ Red
unfolding opened omits
was_red = refl

starts : interval (replay omits (Tick all_off ∷ crossing)) 3 ≡ Green
unfolding opened omits
starts = refl

was_promised : (replay omits crossing).rings.commitment Ring1 ≡ Some 3
unfolding opened omits
was_promised = refl

record Omission (plan : Plan) (is : List Input) (row : Row) (q : ℕ) : Type 0 where
  consistent : IsConsistent plan
  few : plan.phase_count ≤ 16
  taken : AreTaken plan is
  untripped : (replay plan is).trip ≡ None
  omitted : omitted (replay plan is) q ≡ true
  alone : service (replay plan is) row ≡ None
  starts : StartsGreen plan is row q

an_omission : Omission omits crossing all_off 3
an_omission = record {
  consistent = omits_consistent;
  few = (let count = omits_count.0 in omega (arith, count));
  taken = crossing_taken;
  untripped = crossing_dark;
  omitted = is_omitted;
  alone = is_alone;
  starts = record { was_not = λ h. (let bad : Red ≡ Green = sym was_red ∙ h in absurd cc); starts = starts };
}

-- ## A run in which a lamp was lit, and that has not tripped since: a reset started it anew

abbrev lit : List Input
lit = Fault (Some (lamps.Phase 3 signals.Green)) ∷ Tick all_off ∷ []

has_tripped : is_some (replay quad lit).trip ≡ true
unfolding opened
has_tripped = refl

record Unlit (plan : Plan) (is : List Input) : Type 0 where
  consistent : IsConsistent plan
  taken : AreTaken plan is
  unlit : is_unlit plan is ≡ true

reset_taken : AreTaken quad (Tick all_off ∷ Reset ∷ lit)
unfolding opened
reset_taken = ((((tt, refl), refl), refl), refl)

reset_unlit : is_unlit quad (Tick all_off ∷ Reset ∷ lit) ≡ true
unfolding opened
reset_unlit = refl

a_reset : Unlit quad (Tick all_off ∷ Reset ∷ lit)
a_reset = record { consistent = quad_consistent; taken = reset_taken; unlit = reset_unlit }
