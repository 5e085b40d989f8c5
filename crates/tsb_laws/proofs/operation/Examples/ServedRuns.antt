-- Runs from power-up that meet all premises of the laws of greens with a conflict and of called phases, and mistakes that
-- these laws refuse.
use Rattle.std.proofs.Common.{◌≡◌, ◌≢◌, ℕ, ◌+◌, ◌≤◌, ◌==◌, Bool, true, false, if◌then◌else◌, max, List, [], ◌∷◌, ◌++◌, Option, Some, None, refl, sym, ap, subst, ◌∙◌, inr, arith}
use Rattle.std.specs.List.{list_all}
use Rattle.tsb_step.specs.tsb_types.declared.interval.Interval.{Interval}
use Rattle.tsb_step.specs.tsb_types.declared.interval.Interval.TheVariants.{Green}
use Rattle.tsb_step.specs.tsb_types.Lists.{among, some_passes, later}
use Rattle.tsb_step.specs.tsb_types.Sets.{all_off, set_of_detectors}
use Rattle.tsb_step.specs.tsb_types.declared.row.Row.{Row}
use Rattle.tsb_step.specs.tsb_plan.declared.object.Object.TheVariants.{PhaseEnabled, PhaseRing, PhaseSide, PhaseConcurrency, SequenceData, PhaseMinimumGreen, PhaseMaximum1, PhaseMaximum2, PhaseMaximumInitial, PhasePassage, PhaseMinimumGap, PhaseWalk, PhasePedestrianClear, PhaseYellowChange, PhaseRedClear, PhaseRedRevert, VehicleDetectorCallPhase, UnitRedRevert, PhaseDynamicMaxLimit, UnitMax2}
use Rattle.tsb_step.specs.tsb_plan.declared.object.Object.{Object}
use Rattle.tsb_step.specs.tsb_plan.Objects.{greatest}
use Rattle.tsb_step.specs.tsb_plan.Plan.{Plan, all_counts, empty, phases, with_values, side_of, has_variable_initial, minimum_green, maximum_initial, maximum, walk, pedestrian_clear}
use Rattle.tsb_step.specs.tsb_rules.Rules.{first_broken}
use Rattle.tsb_step.specs.tsb_phase.DynamicMaximum.{is_dynamic, highest_maximum}
use Rattle.tsb_step.specs.tsb_phase.Phase.{held_of}
use Rattle.tsb_step.specs.tsb_phase.Green.{is_gapped}
use Rattle.tsb_step.specs.tsb_ring.Rings as rings
use Rattle.tsb_step.specs.tsb_ring.Rings.{Ring, Ring1, in_ring}
use Rattle.tsb_step.specs.declared.inputs.Input.{Input}
use Rattle.tsb_step.specs.declared.inputs.Input.TheVariants.{Tick}
use Rattle.tsb_step.specs.State.{State, interval}
use Rattle.tsb_step.specs.Tick.{phases_given, phase_read, ready}
use Rattle.tsb_step.specs.Step.{step}
use Rattle.tsb_step.specs.Runs.{replay, AreTaken}
use Rattle.tsb_step.specs.Laws.{IsConsistent, is_unlit}
use Rattle.tsb_step.proofs.GoodLemmas.{good_run}
use Rattle.tsb_step.proofs.Examples.Scenes.{opened, vehicle, green}
use Rattle.tsb_laws.specs.Stretches.{IsUntripped, has_held_since, has_no_trails}
use Rattle.tsb_laws.specs.ServedCalls.{is_pressed, HasBeenPressed, longest_maximum, longest_initial, IsDoneWithin, IsFullyConcurrent, is_waiting, HasWaited, longest_green, TurnsTakeAtMost, still_to_come, IsToCome, is_outside}
use Rattle.tsb_laws.specs.CoordinatedGreens.{HasGoneOn}
use Rattle.tsb_laws.proofs.safety.Examples.PlanFits.{Fits, consistent}
use Rattle.tsb_laws.proofs.safety.Examples.TickRuns.{ticks, now_then, plan_then, largest_then, all_taken, dark_then, none_trips}
use Rattle.tsb_laws.proofs.safety.Examples.StretchRuns.{gone, gone_to, goes_on, shorter, came, held_since, pressed_since, waited_since, values_alone_fit, goes_with_all, goes_together, is_clearing, none_clears}

-- ## A plan of small times: 1, 2 and 4 in ring 1, 6 and 8 in ring 2, and 4 and 8 on side 2

-- a green has a maximum of 1 s and no minimum, a yellow lasts for 3 s, and there is neither red clearance nor red revert
abbrev pub brisk_values : List (Object × ℕ × ℕ)
brisk_values =
    (PhaseEnabled, 1, 1) ∷ (PhaseEnabled, 2, 1) ∷ (PhaseEnabled, 4, 1) ∷ (PhaseEnabled, 6, 1) ∷ (PhaseEnabled, 8, 1) ∷
    (PhaseRing, 1, 1) ∷ (PhaseRing, 2, 1) ∷ (PhaseRing, 4, 1) ∷ (PhaseRing, 6, 2) ∷ (PhaseRing, 8, 2) ∷
    (PhaseSide, 1, 1) ∷ (PhaseSide, 2, 1) ∷ (PhaseSide, 4, 2) ∷ (PhaseSide, 6, 1) ∷ (PhaseSide, 8, 2) ∷
    (PhaseConcurrency, 1, 32) ∷ (PhaseConcurrency, 2, 32) ∷ (PhaseConcurrency, 4, 128) ∷ (PhaseConcurrency, 6, 3) ∷ (PhaseConcurrency, 8, 8) ∷
    (PhaseMaximum1, 1, 1) ∷ (PhaseMaximum1, 2, 1) ∷ (PhaseMaximum1, 4, 1) ∷ (PhaseMaximum1, 6, 1) ∷ (PhaseMaximum1, 8, 1) ∷
    (PhaseMaximum2, 1, 1) ∷ (PhaseMaximum2, 2, 1) ∷ (PhaseMaximum2, 4, 1) ∷ (PhaseMaximum2, 6, 1) ∷ (PhaseMaximum2, 8, 1) ∷
    (PhasePassage, 1, 20) ∷ (PhasePassage, 2, 20) ∷ (PhasePassage, 4, 20) ∷ (PhasePassage, 6, 20) ∷ (PhasePassage, 8, 20) ∷
    (PhaseMinimumGap, 1, 20) ∷ (PhaseMinimumGap, 2, 20) ∷ (PhaseMinimumGap, 4, 20) ∷ (PhaseMinimumGap, 6, 20) ∷ (PhaseMinimumGap, 8, 20) ∷
    (PhaseYellowChange, 1, 30) ∷ (PhaseYellowChange, 2, 30) ∷ (PhaseYellowChange, 4, 30) ∷ (PhaseYellowChange, 6, 30) ∷ (PhaseYellowChange, 8, 30) ∷
    (VehicleDetectorCallPhase, 1, 1) ∷ (VehicleDetectorCallPhase, 2, 2) ∷ (VehicleDetectorCallPhase, 4, 4) ∷ (VehicleDetectorCallPhase, 6, 6) ∷
    (VehicleDetectorCallPhase, 8, 8) ∷
    (SequenceData, 1, 1) ∷ (SequenceData, 2, 2) ∷ (SequenceData, 3, 4) ∷ (SequenceData, 17, 6) ∷ (SequenceData, 18, 8) ∷ []

unfoldable pub brisk : Plan
brisk = with_values empty brisk_values

-- the greatest of these times
abbrev limit : Object → ℕ
limit PhaseMaximum1 = 1
limit PhaseMaximum2 = 1
limit PhaseDynamicMaxLimit = 0
limit PhaseMinimumGreen = 0
limit PhaseMaximumInitial = 0
limit PhaseWalk = 0
limit PhasePedestrianClear = 0
limit PhaseYellowChange = 30
limit PhaseRedClear = 0
limit PhaseRedRevert = 0
limit UnitRedRevert = 0
limit o = greatest o

brisk_fits : Fits limit brisk.value
unfolding brisk
brisk_fits = values_alone_fit limit brisk_values refl

pub brisk_count : (brisk.phase_count ≡ 16) × (brisk.counts ≡ all_counts)
unfolding brisk
brisk_count = (refl, refl)

brisk_breaks_none : first_broken brisk ≡ None
unfolding opened brisk
brisk_breaks_none = refl

pub brisk_consistent : IsConsistent brisk
brisk_consistent = consistent limit brisk brisk_count brisk_breaks_none brisk_fits

brisk_few : brisk.phase_count ≤ 16
brisk_few = let count = brisk_count.0 in omega (arith, count)

brisk_together : list_all (goes_with_all brisk) (phases brisk) ≡ true
unfolding opened brisk
brisk_together = refl

greens : (p : ℕ) → longest_green brisk p ≤ 10
unfolding longest_green
greens p = go (is_dynamic brisk p) (has_variable_initial brisk p)
  where
    maximums : (b : Bool) → brisk.value (if b then PhaseMaximum2 else PhaseMaximum1) p ≤ 1
    maximums true = brisk_fits.bounded PhaseMaximum2 p
    maximums false = brisk_fits.bounded PhaseMaximum1 p

    go : (d v : Bool) →
        max (if d then highest_maximum brisk p else maximum brisk p)
        (max (if v then max (minimum_green brisk p) (maximum_initial brisk p) else minimum_green brisk p) (walk brisk p + pedestrian_clear brisk p)) ≤ 10
    go d v = by d v
        (maximums (brisk.value UnitMax2 1 == 1)) (brisk_fits.bounded PhaseDynamicMaxLimit p) (brisk_fits.bounded PhaseMinimumGreen p)
        (brisk_fits.bounded PhaseMaximumInitial p) (brisk_fits.bounded PhaseWalk p) (brisk_fits.bounded PhasePedestrianClear p)
      where
        by : (x y : Bool) → brisk.value (if brisk.value UnitMax2 1 == 1 then PhaseMaximum2 else PhaseMaximum1) p ≤ 1 → brisk.value PhaseDynamicMaxLimit p ≤ 0 →
            brisk.value PhaseMinimumGreen p ≤ 0 → brisk.value PhaseMaximumInitial p ≤ 0 → brisk.value PhaseWalk p ≤ 0 → brisk.value PhasePedestrianClear p ≤ 0 →
            max (if x then highest_maximum brisk p else maximum brisk p)
            (max (if y then max (minimum_green brisk p) (maximum_initial brisk p) else minimum_green brisk p) (walk brisk p + pedestrian_clear brisk p)) ≤ 10
        by true true one two three four five six = omega (arith, one, two, three, four, five, six)
        by true false one two three four five six = omega (arith, one, two, three, four, five, six)
        by false true one two three four five six = omega (arith, one, two, three, four, five, six)
        by false false one two three four five six = omega (arith, one, two, three, four, five, six)

no_trails : has_no_trails brisk ≡ true
unfolding opened brisk
no_trails = refl

takes : TurnsTakeAtMost brisk 30 10
takes = record {
  untrailed = no_trails;
  clearance = λ p. (let y = brisk_fits.bounded PhaseYellowChange p in let z = brisk_fits.bounded PhaseRedClear p in omega (arith, y, z));
  revert = λ p. (let own = brisk_fits.bounded PhaseRedRevert p in let unit = brisk_fits.bounded UnitRedRevert 1 in omega (arith, own, unit));
  green = greens;
}

-- ## 1 is Green from tick 1 on, and from tick 3 on cars wait at 1, 2 and 4

abbrev pub alone : List Input
alone = ticks (vehicle 1) 2

abbrev pub cars : Row
cars = record all_off { vehicles = set_of_detectors 11 }

-- the run so many ticks later
abbrev pub run : ℕ → List Input
run n = ticks cars n ++ alone

unlit : is_unlit brisk alone ≡ true
unlit = refl

alone_taken : AreTaken brisk alone
alone_taken = all_taken brisk (vehicle 1) [] 2 tt (omega arith)

ticked_2 : (replay brisk alone).now ≡ 2
ticked_2 = (let at = now_then brisk (vehicle 1) [] 2 in omega (arith, at))

in_time : (n : ℕ) → n ≤ 500 → (replay brisk alone).now + n ≤ 1000
in_time n low = let at = ticked_2 in omega (arith, at, low)

pub run_taken : (n : ℕ) → n ≤ 500 → AreTaken brisk (run n)
run_taken n low = all_taken brisk cars alone n alone_taken (in_time n low)

untripped : (n : ℕ) → n ≤ 500 → IsUntripped brisk alone (ticks cars n)
untripped n low = none_trips brisk cars alone brisk_consistent alone_taken unlit n (in_time n low)

pub run_dark : (n : ℕ) → n ≤ 500 → (replay brisk (run n)).trip ≡ None
run_dark n low = dark_then brisk cars alone brisk_consistent alone_taken unlit n (in_time n low)

plan_is : (replay brisk alone).plan ≡ brisk
plan_is = plan_then brisk (vehicle 1) [] 2

full : IsFullyConcurrent (replay brisk alone).plan
full = subst IsFullyConcurrent (sym plan_is) (goes_together brisk brisk_consistent brisk_together)

takes_then : TurnsTakeAtMost (replay brisk alone).plan 30 10
takes_then = subst (λ (x : Plan). TurnsTakeAtMost x 30 10) (sym plan_is) takes

-- ## A green that waits for its maximum: it is ready in the tick after 10 with a conflict, and not in the one before

pressed_11 : (gone (is_pressed 1) (replay brisk alone) (ticks cars 11)).1 ≡ true
unfolding opened brisk
pressed_11 = refl

-- a mistake: a green that extends while an output is on, though it has had a conflict for its maximum
abbrev extended : State → Row → ℕ → Bool
extended s row p = is_gapped s.plan (phases_given s row) p (held_of (phase_read s p))

-- whether it is ready now and a tick later, and whether it then would be by the mistake
abbrev ends : State → Bool × Bool × Bool
ends s = (ready s cars 1, ready (step s (Tick cars)) cars 1, extended (step s (Tick cars)) cars 1)

ends_then : ends (replay brisk (run 9)) ≡ (false, true, false)
unfolding opened brisk
ends_then = refl

is_not_ready_yet : ready (replay brisk (run 9)) cars 1 ≡ false
is_not_ready_yet = ap (λ (x : Bool × Bool × Bool). x.0) ends_then

is_ready_then : ready (replay brisk (run 10)) cars 1 ≡ true
is_ready_then = ap (λ (x : Bool × Bool × Bool). x.1) ends_then

would_extend : extended (replay brisk (run 10)) cars 1 ≡ false
would_extend = ap (λ (x : Bool × Bool × Bool). x.2) ends_then

-- its times
record Times (x : Plan) : Type 0 where
  maximum : longest_maximum x 1 ≡ 10
  initial : longest_initial x 1 ≡ 0
  pedestrians : walk x 1 + pedestrian_clear x 1 ≡ 0

times : Times brisk
unfolding opened brisk
times = record { maximum = refl; initial = refl; pedestrians = refl }

times_here : Times (replay brisk alone).plan
times_here = subst Times (sym plan_is) times

done_in : (n : ℕ) → IsDoneWithin brisk alone 1 10 (ticks cars n)
done_in n = record {
  maximum = (let is = times_here.maximum in let same = largest_then brisk cars alone (λ x. longest_maximum x 1) n in omega (arith, is, same));
  initial = (let is = times_here.initial in let same = largest_then brisk cars alone (λ x. longest_initial x 1) n in omega (arith, is, same));
  pedestrians = (let is = times_here.pedestrians in
      let same = largest_then brisk cars alone (λ x. walk x 1) n in
      let too = largest_then brisk cars alone (λ x. pedestrian_clear x 1) n in omega (arith, is, same, too));
}

record Press (plan : Plan) (base later : List Input) (row : Row) (p n : ℕ) : Type 0 where
  consistent : IsConsistent plan
  few : plan.phase_count ≤ 16
  taken : AreTaken plan (later ++ base)
  untripped : IsUntripped plan base later
  pressed : HasBeenPressed plan p base (Tick row ∷ later)
  done : IsDoneWithin plan base p n later
  long : (replay plan base).now + n ≤ (replay plan (later ++ base)).now

a_press : Press brisk alone (ticks cars 10) cars 1 10
a_press = record {
  consistent = brisk_consistent;
  few = brisk_few;
  taken = run_taken 10 (omega arith);
  untripped = untripped 10 (omega arith);
  pressed = pressed_since brisk 1 alone (ticks cars 11) (goes_on (is_pressed 1) brisk alone (ticks cars 11) pressed_11);
  done = done_in 10;
  long = (let at = now_then brisk cars alone 10 in omega (arith, at));
}

-- ## A phase that comes: 2 is Green 41 ticks later, as 1 has ended and cleared

came_2 : came 2 (gone (is_waiting 2) (replay brisk alone) (ticks cars 41)) ≡ (true, Green)
unfolding opened brisk
came_2 = refl

waits_2 : (gone (is_waiting 2) (replay brisk alone) (ticks cars 41)).1 ≡ true
waits_2 = ap (λ (x : Bool × Interval). x.0) came_2

comes_2 : interval (replay brisk (run 41)) 2 ≡ Green
comes_2 = sym (ap (λ (s : State). interval s 2) (gone_to (is_waiting 2) brisk alone (ticks cars 41))) ∙ ap (λ (x : Bool × Interval). x.1) came_2

-- ring 1 has started 1, and 2 is still to come
record AtFirst : Type 0 where
  ringed : in_ring (replay brisk alone).plan Ring1 2 ≡ true
  own_side : side_of (replay brisk alone).plan 2 ≡ 1
  outside : (replay brisk alone).rings.crossing ≡ None
  there : among 2 (still_to_come (replay brisk alone) Ring1) ≡ true
  none_clears : some_passes (is_clearing (replay brisk alone)) (phases (replay brisk alone).plan) ≡ false
  across : side_of (replay brisk alone).plan 4 ≡ 2
  side : (replay brisk alone).rings.side ≡ 1
  ringed_4 : in_ring (replay brisk alone).plan Ring1 4 ≡ true

at_first : AtFirst
unfolding opened brisk
at_first = record { ringed = refl; own_side = refl; outside = refl; there = refl; none_clears = refl; across = refl; side = refl; ringed_4 = refl }

to_come : IsToCome (replay brisk alone) Ring1 2
to_come = record {
  ringed = at_first.ringed;
  beside = at_first.own_side ∙ sym at_first.side;
  outside = at_first.outside;
  ahead = inr at_first.there;
  bound = λ p own serves pale.
      absurd (none_clears (replay brisk alone) (good_run brisk alone brisk_consistent alone_taken) at_first.none_clears p serves pale);
}

record Turn (plan : Plan) (base later : List Input) (r : Ring) (q k h : ℕ) : Type 0 where
  consistent : IsConsistent plan
  few : plan.phase_count ≤ 16
  taken : AreTaken plan (later ++ base)
  untripped : IsUntripped plan base later
  full : IsFullyConcurrent (replay plan base).plan
  takes : TurnsTakeAtMost (replay plan base).plan k h
  due : IsToCome (replay plan base) r q
  waited : HasWaited plan q base later
  comes : interval (replay plan (later ++ base)) q ≡ Green

a_turn : Turn brisk alone (ticks cars 41) Ring1 2 30 10
a_turn = record {
  consistent = brisk_consistent;
  few = brisk_few;
  taken = run_taken 41 (omega arith);
  untripped = untripped 41 (omega arith);
  full = full;
  takes = takes_then;
  due = to_come;
  waited = waited_since brisk 2 alone (ticks cars 41) (goes_on (is_waiting 2) brisk alone (ticks cars 41) waits_2);
  comes = comes_2;
}

-- ## 4 waits, and is Green 81 ticks later

came_4 : came 4 (gone (is_waiting 4) (replay brisk alone) (ticks cars 81)) ≡ (true, Green)
unfolding opened brisk
came_4 = refl

waits_81 : HasGoneOn (is_waiting 4) brisk alone (ticks cars 81)
waits_81 = goes_on (is_waiting 4) brisk alone (ticks cars 81) (ap (λ (x : Bool × Interval). x.0) came_4)

comes_4 : interval (replay brisk (run 81)) 4 ≡ Green
comes_4 = sym (ap (λ (s : State). interval s 4) (gone_to (is_waiting 4) brisk alone (ticks cars 81))) ∙ ap (λ (x : Bool × Interval). x.1) came_4

-- ## A crossing that is to begin: in the tick after 50, as 2 has come and ended

-- whether all were outside, and the phase that the rings then cross to
abbrev crossed : State × Bool → Bool × Option ℕ
crossed x = (x.1, x.0.rings.crossing)

crosses_then : crossed (gone (λ s i. is_outside s) (replay brisk alone) (ticks cars 51)) ≡ (true, Some 2)
unfolding opened brisk
crosses_then = refl

crosses_to_2 : (replay brisk (run 51)).rings.crossing ≡ Some 2
crosses_to_2 =
    sym (ap (λ (s : State). s.rings.crossing) (gone_to (λ s i. is_outside s) brisk alone (ticks cars 51)))
    ∙ ap (λ (x : Bool × Option ℕ). x.1) crosses_then

record Barrier (plan : Plan) (base later : List Input) (row : Row) (q k h d : ℕ) : Type 0 where
  consistent : IsConsistent plan
  few : plan.phase_count ≤ 16
  taken : AreTaken plan (later ++ base)
  untripped : IsUntripped plan base later
  full : IsFullyConcurrent (replay plan base).plan
  takes : TurnsTakeAtMost (replay plan base).plan k h
  apart : side_of (replay plan base).plan q ≢ (replay plan base).rings.side
  waited : HasWaited plan q base later
  outside : has_held_since is_outside plan base later ≡ true
  crosses : (replay plan (Tick row ∷ (later ++ base))).rings.crossing ≡ Some d

a_barrier : Barrier brisk alone (ticks cars 50) cars 4 30 10 2
a_barrier = record {
  consistent = brisk_consistent;
  few = brisk_few;
  taken = run_taken 50 (omega arith);
  untripped = untripped 50 (omega arith);
  full = full;
  takes = takes_then;
  apart = λ e. (let two = at_first.across in let one = at_first.side in let bad : 2 ≡ 1 = sym two ∙ e ∙ one in absurd (omega (arith, bad)));
  waited = waited_since brisk 4 alone (ticks cars 50) (shorter (is_waiting 4) brisk alone cars 50 81 (omega arith) waits_81);
  outside = held_since is_outside brisk alone (ticks cars 50) outside.1 outside.0;
  crosses = crosses_to_2;
}
  where
    outside : HasGoneOn (λ s i. is_outside s) brisk alone (ticks cars 51)
    outside = goes_on (λ s i. is_outside s) brisk alone (ticks cars 51) (ap (λ (x : Bool × Option ℕ). x.0) crosses_then)

-- ## A phase of another side that is served: 4 is Green 81 ticks later

record Service (plan : Plan) (base later : List Input) (r : Ring) (q k h : ℕ) : Type 0 where
  consistent : IsConsistent plan
  few : plan.phase_count ≤ 16
  taken : AreTaken plan (later ++ base)
  untripped : IsUntripped plan base later
  full : IsFullyConcurrent (replay plan base).plan
  takes : TurnsTakeAtMost (replay plan base).plan k h
  ringed : in_ring (replay plan base).plan r q ≡ true
  waited : HasWaited plan q base later
  comes : interval (replay plan (later ++ base)) q ≡ Green

a_service : Service brisk alone (ticks cars 81) Ring1 4 30 10
a_service = record {
  consistent = brisk_consistent;
  few = brisk_few;
  taken = run_taken 81 (omega arith);
  untripped = untripped 81 (omega arith);
  full = full;
  takes = takes_then;
  ringed = at_first.ringed_4;
  waited = waited_since brisk 4 alone (ticks cars 81) waits_81;
  comes = comes_4;
}
