-- Runs from power-up that meet the premises of the laws of waits in a pattern: of a green that is forced off, of a phase that is
-- called, and of a coordinated phase; each wait lasts and ends. And a mistake that the first of these laws refuses.
use Rattle.std.proofs.Common.{◌≡◌, ℕ, ◌+◌, ◌≤◌, Bool, true, false, if◌then◌else◌, max, List, [], ◌∷◌, ◌++◌, Some, None, refl, sym, ap, subst, arith, ◌∙◌}
use Rattle.std.specs.List.{list_all}
use Rattle.tsb_step.specs.tsb_types.declared.interval.Interval.{Interval}
use Rattle.tsb_step.specs.tsb_types.declared.interval.Interval.TheVariants.{Green}
use Rattle.tsb_step.specs.tsb_types.declared.row.Row.{Row}
use Rattle.tsb_step.specs.tsb_plan.declared.object.Object.{Object}
use Rattle.tsb_step.specs.tsb_plan.declared.object.Object.TheVariants.{PhaseEnabled, PhaseRing, PhaseSide, PhaseConcurrency, PhaseMinimumGreen, PhaseMaximum1, PhaseMaximum2, PhaseMaximumInitial, PhaseWalk, PhasePedestrianClear, PhaseYellowChange, PhaseRedClear, PhaseRedRevert, UnitRedRevert, VehicleDetectorCallPhase, SequenceData, PatternCycleTime, PatternOffsetTime, PatternSplitNumber, PatternSequenceNumber, SplitTime, SplitCoordPhase}
use Rattle.tsb_step.specs.tsb_plan.Objects.{greatest}
use Rattle.tsb_step.specs.tsb_plan.Parts.{cycle}
use Rattle.tsb_step.specs.tsb_plan.Plan.{Plan, all_counts, empty, phases, has_variable_initial, minimum_green, maximum_initial, walk, pedestrian_clear, with_values}
use Rattle.tsb_step.specs.tsb_rules.Rules.{first_broken}
use Rattle.tsb_step.specs.tsb_coord.Correction.{forces}
use Rattle.tsb_step.specs.tsb_ring.Rings.{Ring, Ring1, in_ring}
use Rattle.tsb_step.specs.declared.inputs.Input.{Input}
use Rattle.tsb_step.specs.declared.inputs.Input.TheVariants.{Tick}
use Rattle.tsb_step.specs.State.{State, interval}
use Rattle.tsb_step.specs.Tick.{runs, forced, ready}
use Rattle.tsb_step.specs.Signs.{IsInStep}
use Rattle.tsb_step.specs.Step.{step}
use Rattle.tsb_step.specs.Runs.{replay, AreTaken}
use Rattle.tsb_step.specs.Laws.{IsConsistent, is_unlit}
use Rattle.tsb_step.proofs.Examples.Scenes.{opened, vehicle}
use Rattle.tsb_laws.specs.Stretches.{IsUntripped, has_no_trails}
use Rattle.tsb_laws.specs.ServedCalls.{longest_initial, IsFullyConcurrent}
use Rattle.tsb_laws.specs.CoordinatedGreens.{HasGoneOn, is_pressed_in_pattern, IsForcedWithin, is_out, is_called_in_pattern, longest_in_pattern, TurnsInPattern}
use Rattle.tsb_laws.proofs.safety.Examples.PlanFits.{Fits, consistent}
use Rattle.tsb_laws.proofs.safety.Examples.TickRuns.{ticks, now_then, plan_then, all_taken, unlit_then, dark_then, none_trips}
use Rattle.tsb_laws.proofs.safety.Examples.StretchRuns.{gone, gone_to, goes_on, came, values_alone_fit, goes_with_all, goes_together}
use Rattle.tsb_laws.proofs.operation.Examples.CoordinatedRuns.{selected}

-- ## A plan of a cycle of 10 s: 2 and 6 are coordinated, and cars wait at 4 across the barrier

-- the instant of 2 is 70, in tick 10, and that of 4 is 20; 6 has a minimum green of 20 ticks, for which 2 waits at the barrier
abbrev pub round_values : List (Object × ℕ × ℕ)
round_values =
    (PhaseEnabled, 2, 1) ∷ (PhaseEnabled, 4, 1) ∷ (PhaseEnabled, 6, 1) ∷ (PhaseEnabled, 8, 1) ∷
    (PhaseRing, 2, 1) ∷ (PhaseRing, 4, 1) ∷ (PhaseRing, 6, 2) ∷ (PhaseRing, 8, 2) ∷
    (PhaseSide, 2, 1) ∷ (PhaseSide, 4, 2) ∷ (PhaseSide, 6, 1) ∷ (PhaseSide, 8, 2) ∷
    (PhaseConcurrency, 2, 32) ∷ (PhaseConcurrency, 4, 128) ∷ (PhaseConcurrency, 6, 2) ∷ (PhaseConcurrency, 8, 8) ∷
    (PhaseMinimumGreen, 2, 1) ∷ (PhaseMinimumGreen, 6, 2) ∷
    (PhaseMaximum1, 2, 2) ∷ (PhaseMaximum1, 4, 2) ∷ (PhaseMaximum1, 6, 2) ∷ (PhaseMaximum1, 8, 2) ∷
    (PhaseMaximum2, 2, 2) ∷ (PhaseMaximum2, 4, 2) ∷ (PhaseMaximum2, 6, 2) ∷ (PhaseMaximum2, 8, 2) ∷
    (PhaseYellowChange, 2, 30) ∷ (PhaseYellowChange, 4, 30) ∷ (PhaseYellowChange, 6, 30) ∷ (PhaseYellowChange, 8, 30) ∷
    (VehicleDetectorCallPhase, 2, 2) ∷ (VehicleDetectorCallPhase, 4, 4) ∷ (VehicleDetectorCallPhase, 6, 6) ∷ (VehicleDetectorCallPhase, 8, 8) ∷
    (SequenceData, 1, 2) ∷ (SequenceData, 2, 4) ∷ (SequenceData, 17, 6) ∷ (SequenceData, 18, 8) ∷
    (PatternCycleTime, 1, 10) ∷ (PatternOffsetTime, 1, 4) ∷ (PatternSplitNumber, 1, 1) ∷ (PatternSequenceNumber, 1, 1) ∷
    (SplitTime, 2, 5) ∷ (SplitTime, 4, 5) ∷ (SplitTime, 6, 5) ∷ (SplitTime, 8, 5) ∷ (SplitCoordPhase, 2, 1) ∷ (SplitCoordPhase, 6, 1) ∷ []

unfoldable pub round : Plan
round = with_values empty round_values

-- the greatest of these times
abbrev limit : Object → ℕ
limit PatternCycleTime = 10
limit PhaseMinimumGreen = 2
limit PhaseMaximumInitial = 0
limit PhaseWalk = 0
limit PhasePedestrianClear = 0
limit PhaseYellowChange = 30
limit PhaseRedClear = 0
limit PhaseRedRevert = 0
limit UnitRedRevert = 0
limit o = greatest o

round_fits : Fits limit round.value
unfolding round
round_fits = values_alone_fit limit round_values refl

pub round_count : (round.phase_count ≡ 16) × (round.counts ≡ all_counts)
unfolding round
round_count = (refl, refl)

round_breaks_none : first_broken round ≡ None
unfolding opened round
round_breaks_none = refl

pub round_consistent : IsConsistent round
round_consistent = consistent limit round round_count round_breaks_none round_fits

round_few : round.phase_count ≤ 16
round_few = let count = round_count.0 in omega (arith, count)

round_together : list_all (goes_with_all round) (phases round) ≡ true
unfolding opened round
round_together = refl

longest : (p : ℕ) → longest_in_pattern round 1 p ≤ 100
unfolding longest_in_pattern
longest p =
    go (has_variable_initial round p) (round_fits.bounded PatternCycleTime 1) (round_fits.bounded PhaseMinimumGreen p)
    (round_fits.bounded PhaseMaximumInitial p) (round_fits.bounded PhaseWalk p) (round_fits.bounded PhasePedestrianClear p)
  where
    go : (v : Bool) → round.value PatternCycleTime 1 ≤ 10 → round.value PhaseMinimumGreen p ≤ 2 → round.value PhaseMaximumInitial p ≤ 0 →
        round.value PhaseWalk p ≤ 0 → round.value PhasePedestrianClear p ≤ 0 →
        max (cycle round 1) (max (if v then max (minimum_green round p) (maximum_initial round p) else minimum_green round p) (walk round p + pedestrian_clear round p)) ≤ 100
    go true one two three four five = omega (arith, one, two, three, four, five)
    go false one two three four five = omega (arith, one, two, three, four, five)

no_trails : has_no_trails round ≡ true
unfolding opened round
no_trails = refl

turns_in_1 : TurnsInPattern round 1 30 100
turns_in_1 = record {
  clears = record {
    untrailed = no_trails;
    clearance = λ p. (let y = round_fits.bounded PhaseYellowChange p in let z = round_fits.bounded PhaseRedClear p in omega (arith, y, z));
    revert = λ p. (let own = round_fits.bounded PhaseRedRevert p in let unit = round_fits.bounded UnitRedRevert 1 in omega (arith, own, unit));
  };
  green = longest;
}

-- pattern 1 is selected at power-up, and so many ticks come
abbrev pub so_far : ℕ → List Input
so_far n = ticks (vehicle 4) n ++ selected

round_unlit : is_unlit round selected ≡ true
round_unlit = refl

round_selected : AreTaken round selected
unfolding opened round
round_selected = (tt, refl)

at_power_up : (replay round selected).now ≡ 0
unfolding opened
at_power_up = refl

in_time : (n : ℕ) → n ≤ 500 → (replay round selected).now + n ≤ 1000
in_time n low = let at = at_power_up in omega (arith, at, low)

pub round_taken : (n : ℕ) → n ≤ 500 → AreTaken round (so_far n)
round_taken n low = all_taken round (vehicle 4) selected n round_selected (in_time n low)

unlit_so : (n : ℕ) → is_unlit round (so_far n) ≡ true
unlit_so n = unlit_then round (vehicle 4) selected n round_unlit

pub round_dark : (n : ℕ) → n ≤ 500 → (replay round (so_far n)).trip ≡ None
round_dark n low = dark_then round (vehicle 4) selected round_consistent round_selected round_unlit n (in_time n low)

-- from the state after m ticks on, n more
later_in_time : (m n : ℕ) → m ≤ 200 → n ≤ 200 → (replay round (so_far m)).now + n ≤ 1000
later_in_time m n low few = let at = at_power_up in let later = now_then round (vehicle 4) selected m in omega (arith, at, later, low, few)

untripped : (m n : ℕ) → m ≤ 200 → n ≤ 200 → IsUntripped round (so_far m) (ticks (vehicle 4) n)
untripped m n low few = none_trips round (vehicle 4) (so_far m) round_consistent (round_taken m (omega (arith, low))) (unlit_so m) n (later_in_time m n low few)

taken_then : (m n : ℕ) → m ≤ 200 → n ≤ 200 → AreTaken round (ticks (vehicle 4) n ++ so_far m)
taken_then m n low few = all_taken round (vehicle 4) (so_far m) n (round_taken m (omega (arith, low))) (later_in_time m n low few)

selected_plan : (replay round selected).plan ≡ round
unfolding opened
selected_plan = refl

round_plan : (m : ℕ) → (replay round (so_far m)).plan ≡ round
round_plan m = plan_then round (vehicle 4) selected m ∙ selected_plan

full_then : (m : ℕ) → IsFullyConcurrent (replay round (so_far m)).plan
full_then m = subst IsFullyConcurrent (sym (round_plan m)) (goes_together round round_consistent round_together)

turns_then : (m : ℕ) → TurnsInPattern (replay round (so_far m)).plan 1 30 100
turns_then m = subst (λ (x : Plan). TurnsInPattern x 1 30 100) (sym (round_plan m)) turns_in_1

-- pattern 1 runs, and its local counter is in step
record Runs (s : State) (c : ℕ) : Type 0 where
  runs : runs s ≡ Some 1
  in_step : IsInStep s
  ringed : in_ring s.plan Ring1 c ≡ true

-- ## A green that is forced off: 2 is ready in the tick after 10 with a conflict, and not in the second before

pressed_11 : (gone (is_pressed_in_pattern 2) (replay round (so_far 1)) (ticks (vehicle 4) 11)).1 ≡ true
unfolding opened round
pressed_11 = refl

-- mistakes: a force-off that counts in the tick of its instant alone, when 2 lacks its initial time, and not afterwards
abbrev forgets_it : State → State
forgets_it s = record s { phases = λ p. record (s.phases p) { forced = false } }

-- whether 2 is ready now and two ticks later, and what the mistakes then make of it
abbrev Ends : Type 0
Ends = Bool × Bool × Bool × Bool

abbrev later_ends : Bool → State → Ends
later_ends before s = (before, ready s (vehicle 4) 2, forced s 2, ready (forgets_it s) (vehicle 4) 2)

abbrev ends : State → Ends
ends s = later_ends (ready s (vehicle 4) 2) (step (step s (Tick (vehicle 4))) (Tick (vehicle 4)))

ends_then : ends (replay round (ticks (vehicle 4) 8 ++ so_far 1)) ≡ (false, true, false, false)
unfolding opened round
ends_then = refl

is_not_ready_yet : ready (replay round (ticks (vehicle 4) 8 ++ so_far 1)) (vehicle 4) 2 ≡ false
is_not_ready_yet = ap (λ (x : Ends). x.0) ends_then

is_ready : ready (replay round (ticks (vehicle 4) 10 ++ so_far 1)) (vehicle 4) 2 ≡ true
is_ready = ap (λ (x : Ends). x.1) ends_then

would_not_be : forced (replay round (ticks (vehicle 4) 10 ++ so_far 1)) 2 ≡ false
would_not_be = ap (λ (x : Ends). x.2) ends_then

would_not_be_ready : ready (forgets_it (replay round (ticks (vehicle 4) 10 ++ so_far 1))) (vehicle 4) 2 ≡ false
would_not_be_ready = ap (λ (x : Ends). x.3) ends_then

record OfForced (s : State) : Type 0 where
  now : s.now ≡ 1
  comes_at_10 : forces s.plan s.pattern s.correction 10 2 ≡ true
  initial : longest_initial s.plan 2 ≡ 10
  walks : walk s.plan 2 + pedestrian_clear s.plan 2 ≡ 0

of_forced : OfForced (replay round (so_far 1))
unfolding opened round
of_forced = record { now = refl; comes_at_10 = refl; initial = refl; walks = refl }

record ForcedGreen (plan : Plan) (base later : List Input) (row : Row) (p n : ℕ) : Type 0 where
  consistent : IsConsistent plan
  few : plan.phase_count ≤ 16
  taken : AreTaken plan (later ++ base)
  untripped : IsUntripped plan base later
  pressed : HasGoneOn (is_pressed_in_pattern p) plan base (Tick row ∷ later)
  forced : IsForcedWithin (replay plan base) p n
  long : (replay plan base).now + n ≤ (replay plan (later ++ base)).now

a_forced_green : ForcedGreen round (so_far 1) (ticks (vehicle 4) 10) (vehicle 4) 2 10
a_forced_green = record {
  consistent = round_consistent;
  few = round_few;
  taken = taken_then 1 10 (omega arith) (omega arith);
  untripped = untripped 1 10 (omega arith) (omega arith);
  pressed = goes_on (is_pressed_in_pattern 2) round (so_far 1) (ticks (vehicle 4) 11) pressed_11;
  forced = record {
    tick = 10;
    later = (let at = of_forced.now in omega (arith, at));
    soon = (let at = of_forced.now in omega (arith, at));
    forced = of_forced.comes_at_10;
    initial = (let at = of_forced.initial in omega (arith, at));
    walk = (let at = of_forced.walks in omega (arith, at));
  };
  long = (let at = now_then round (vehicle 4) (so_far 1) 10 in omega (arith, at));
}

-- ## 4 is served: it is called from tick 1 on, and Green after tick 51

record Return (test : State → Input → Bool) (plan : Plan) (base later : List Input) (k j h : ℕ) (r : Ring) (c : ℕ) : Type 0 where
  consistent : IsConsistent plan
  few : plan.phase_count ≤ 16
  taken : AreTaken plan (later ++ base)
  untripped : IsUntripped plan base later
  full : IsFullyConcurrent (replay plan base).plan
  runs : runs (replay plan base) ≡ Some k
  in_step : IsInStep (replay plan base)
  ringed : in_ring (replay plan base).plan r c ≡ true
  times : TurnsInPattern (replay plan base).plan k j h
  out : HasGoneOn test plan base later
  comes : interval (replay plan (later ++ base)) c ≡ Green

came_4 : came 4 (gone (is_called_in_pattern 4) (replay round (so_far 0)) (ticks (vehicle 4) 51)) ≡ (true, Green)
unfolding opened round
came_4 = refl

comes_4 : interval (replay round (ticks (vehicle 4) 51 ++ so_far 0)) 4 ≡ Green
comes_4 =
    sym (ap (λ (s : State). interval s 4) (gone_to (is_called_in_pattern 4) round (so_far 0) (ticks (vehicle 4) 51)))
    ∙ ap (λ (x : Bool × Interval). x.1) came_4

runs_at_0 : Runs (replay round (so_far 0)) 4
unfolding opened round
runs_at_0 = record { runs = refl; in_step = refl; ringed = refl }

a_wait : Return (is_called_in_pattern 4) round (so_far 0) (ticks (vehicle 4) 51) 1 30 100 Ring1 4
a_wait = record {
  consistent = round_consistent;
  few = round_few;
  taken = taken_then 0 51 (omega arith) (omega arith);
  untripped = untripped 0 51 (omega arith) (omega arith);
  full = full_then 0;
  runs = runs_at_0.runs;
  in_step = runs_at_0.in_step;
  ringed = runs_at_0.ringed;
  times = turns_then 0;
  out = goes_on (is_called_in_pattern 4) round (so_far 0) (ticks (vehicle 4) 51) (ap (λ (x : Bool × Interval). x.0) came_4);
  comes = comes_4;
}

-- ## 2 returns: it is out from tick 21 on, and Green again after tick 90

came_2 : came 2 (gone (is_out 2) (replay round (so_far 21)) (ticks (vehicle 4) 69)) ≡ (true, Green)
unfolding opened round
came_2 = refl

comes_2 : interval (replay round (ticks (vehicle 4) 69 ++ so_far 21)) 2 ≡ Green
comes_2 =
    sym (ap (λ (s : State). interval s 2) (gone_to (is_out 2) round (so_far 21) (ticks (vehicle 4) 69)))
    ∙ ap (λ (x : Bool × Interval). x.1) came_2

runs_at_21 : Runs (replay round (so_far 21)) 2
unfolding opened round
runs_at_21 = record { runs = refl; in_step = refl; ringed = refl }

a_return : Return (is_out 2) round (so_far 21) (ticks (vehicle 4) 69) 1 30 100 Ring1 2
a_return = record {
  consistent = round_consistent;
  few = round_few;
  taken = taken_then 21 69 (omega arith) (omega arith);
  untripped = untripped 21 69 (omega arith) (omega arith);
  full = full_then 21;
  runs = runs_at_21.runs;
  in_step = runs_at_21.in_step;
  ringed = runs_at_21.ringed;
  times = turns_then 21;
  out = goes_on (is_out 2) round (so_far 21) (ticks (vehicle 4) 69) (ap (λ (x : Bool × Interval). x.0) came_2);
  comes = comes_2;
}
