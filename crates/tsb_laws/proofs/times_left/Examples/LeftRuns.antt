-- A run from power-up that meets the premises of the laws of times that are left of a green: 2 walks for 10 ticks and clears
-- for 10, its green lasts 20 ticks at least and its gap is 23. Without a conflict it rests; where 1 is called it maxes out after
-- 20. And mistakes that these laws refuse.
use Rattle.std.proofs.Common.{◌≡◌, ℕ, ◌+◌, ◌-◌, ◌≤◌, ◌==◌, Bool, true, false, not, ◌&&◌, List, [], ◌∷◌, ◌++◌, Option, Some, None, refl, sym, ap, arith, ◌∙◌}
use Rattle.std.proofs.Math.ListN.{replicate}
use Rattle.std.proofs.lemmas.Bool.{not-true, and_parts, eqb-true}
use Rattle.tsb_step.specs.tsb_cells.declared.timer.Timer.{Timer}
use Rattle.tsb_step.specs.tsb_cells.declared.timer.Timer.TheVariants.{Off, On}
use Rattle.tsb_step.specs.tsb_cells.Timer.{is_on}
use Rattle.tsb_step.specs.tsb_types.Intervals.{is_green, is_walk, is_clearance}
use Rattle.tsb_step.specs.tsb_types.Sets.{all_off}
use Rattle.tsb_step.specs.tsb_types.declared.row.Row.{Row}
use Rattle.tsb_step.specs.tsb_plan.declared.object.Object.{Object}
use Rattle.tsb_step.specs.tsb_plan.declared.object.Object.TheVariants.{PhaseWalk, PhasePedestrianClear, PhasePedRecall, PhaseMinimumGreen, PhaseMaximum1, PhasePassage, PhaseMinimumGap}
use Rattle.tsb_step.specs.tsb_plan.Objects.{greatest}
use Rattle.tsb_step.specs.tsb_plan.Plan.{Plan, all_counts, with_values}
use Rattle.tsb_step.specs.tsb_plan.Quad.{quad}
use Rattle.tsb_step.specs.tsb_phase.Green.{gap, reduction_timer, acting_maximum}
use Rattle.tsb_step.specs.tsb_phase.Pedestrian.{ended_by, walk_time, clearance_time, is_resting_in_walk}
use Rattle.tsb_step.specs.tsb_phase.Phase.{held_of}
use Rattle.tsb_step.specs.tsb_ring.Rings.{Ring1}
use Rattle.tsb_step.specs.tsb_rules.Rules.{first_broken}
use Rattle.tsb_step.specs.declared.inputs.Input.{Input}
use Rattle.tsb_step.specs.declared.inputs.Input.TheVariants.{Tick}
use Rattle.tsb_step.specs.State.{State, interval, pedestrian_part}
use Rattle.tsb_step.specs.Status.{RingStatus, status}
use Rattle.tsb_step.specs.Tick.{runs, phases_given, phase_read}
use Rattle.tsb_step.specs.Waits.{left, phases_again, time_to_last, served, lack, committed_wait, free_wait, wait}
use Rattle.tsb_step.specs.Runs.{replay, AreTaken}
use Rattle.tsb_step.specs.Laws.{IsConsistent}
use Rattle.tsb_step.proofs.TellLemmas.{is_in_green}
use Rattle.tsb_step.proofs.Examples.Scenes.{opened, vehicle}
use Rattle.tsb_laws.specs.TimesLeft.{IsShown, InEachTick, KeepsWalk, KeepsClearance, KeepsInitial, has_lasted, KeepsGap, has_gapped, KeepsMaximum, is_maxed_out}
use Rattle.tsb_laws.proofs.safety.Examples.PlanFits.{Fits, values_fit, quad_fits, consistent}
use Rattle.tsb_laws.proofs.safety.Examples.TickRuns.{ticks, now_then, all_taken}
use Rattle.tsb_laws.proofs.times_left.Examples.TickTests.{ticked_is, passes, passes_first, passes_then, shows, each_by, IsStretch, ticks_stretch}

abbrev leaving_values : List (Object × ℕ × ℕ)
leaving_values =
    (PhaseWalk, 2, 1) ∷ (PhasePedestrianClear, 2, 1) ∷ (PhasePedRecall, 2, 1) ∷
    (PhaseMinimumGreen, 2, 2) ∷ (PhaseMaximum1, 2, 2) ∷ (PhasePassage, 2, 23) ∷ (PhaseMinimumGap, 2, 23) ∷ []

unfoldable pub leaving : Plan
leaving = with_values quad leaving_values

leaving_fits : Fits greatest leaving.value
unfolding leaving
leaving_fits = values_fit greatest leaving_values quad refl (quad_fits greatest refl refl)

leaving_count : (leaving.phase_count ≡ 16) × (leaving.counts ≡ all_counts)
unfolding quad leaving
leaving_count = (refl, refl)

breaks_none : first_broken leaving ≡ None
unfolding opened leaving
breaks_none = refl

pub leaving_consistent : IsConsistent leaving
leaving_consistent = consistent greatest leaving leaving_count breaks_none leaving_fits

-- what is shown of ring 1, opened
unfoldable pub shown_opened : Unit {0}
unfolding opened leaving status served lack phases_again committed_wait free_wait wait
shown_opened = tt

-- a stretch with what is shown before it, and what each of its ticks has
pub record Meets (base later : List Input) (Shown Each : Type 0) : Type 0 where
  pub stretch : IsStretch leaving base later
  pub shown : Shown
  pub each : Each

-- what the status of ring 1 shows
abbrev pub ring_1 : State → RingStatus
ring_1 s = (status s).ring Ring1

-- a mistake: what is shown is left once the next tick has passed
abbrev pub sooner : ℕ → Timer → ℕ
sooner time Off = time
sooner time (On n) = time - (n + 1)

-- ## The green begins

abbrev begun : List Input
begun = Tick all_off ∷ []

begun_taken : AreTaken leaving begun
unfolding opened leaving
begun_taken = (tt, refl)

begun_at : (replay leaving begun).now ≡ 1
unfolding opened leaving
begun_at = refl

-- the phase in service, and what is left of its walk, its initial time and its gap
abbrev green_shown : State → Option ℕ × Option ℕ × Option ℕ × Option ℕ
green_shown s = ((ring_1 s).phase, (ring_1 s).walk_left, (ring_1 s).initial_left, (ring_1 s).gap_left)

at_begin : green_shown (replay leaving begun) ≡ (Some 2, Some 10, Some 20, Some 23)
unfolding shown_opened
at_begin = refl

stretch_of : (n : ℕ) → n ≤ 500 → IsStretch leaving begun (ticks all_off n)
stretch_of n few = ticks_stretch leaving all_off begun n leaving_consistent begun_taken refl (let at = begun_at in omega (arith, at, few))

-- ## The ticks of its walk, its clearance, its initial time and its gap

abbrev tests_walk : State → Row → Bool
tests_walk s row = walk_time s.plan 2 (ended_by (phases_given s row) 2) == 10 && not (is_resting_in_walk s.plan (phases_given s row) 2)

abbrev tests_clearance : State → Row → Bool
tests_clearance s row = clearance_time s.plan 2 (ended_by (phases_given s row) 2) == 10

abbrev tests_initial : State → Row → Bool
tests_initial s row = time_to_last s.plan (phases_given s row) 2 (ended_by (phases_given s row) 2) == 20

abbrev tests_gap : State → Row → Bool
tests_gap s row =
    is_green (interval s 2) && (not ((phases_given s row).output 2)
    && gap s.plan 2 (reduction_timer s.plan (phases_given s row) 2 (held_of (phase_read s 2))) == 23)

abbrev tests_times : State → Row → Bool
tests_times s row = (tests_walk s row && tests_clearance s row) && (tests_initial s row && tests_gap s row)

-- each of these times stays as it is
stays_on : passes tests_times all_off (replay leaving begun) 23 ≡ true
unfolding opened leaving
stays_on = refl

record AreMet (s : State) (row : Row) : Type 0 where
  walk : tests_walk s row ≡ true
  clearance : tests_clearance s row ≡ true
  initial : tests_initial s row ≡ true
  gap : tests_gap s row ≡ true

are_met : (s : State) (row : Row) → tests_times s row ≡ true → AreMet s row
are_met s row h =
    let halves = and_parts (tests_walk s row && tests_clearance s row) (tests_initial s row && tests_gap s row) h in
    let first = and_parts (tests_walk s row) (tests_clearance s row) halves.0 in
    let last = and_parts (tests_initial s row) (tests_gap s row) halves.1 in
    record { walk = first.0; clearance = first.1; initial = last.0; gap = last.1 }

-- whether it walks, clears, has lasted and has gapped out in the next tick
abbrev stages : State → List Bool
stages s =
    is_walk (pedestrian_part s 2) ∷ is_clearance (pedestrian_part s 2) ∷ has_lasted 2 s all_off ∷ has_gapped 2 s all_off ∷ []

-- it walks for 10 ticks and clears for 10, has lasted in the 20th and gaps out in the 23rd
stages_on : shows stages all_off (replay leaving begun) 22 ≡
    replicate 10 (true ∷ false ∷ false ∷ false ∷ []) ++ replicate 9 (false ∷ true ∷ false ∷ false ∷ [])
    ++ (false ∷ true ∷ true ∷ false ∷ []) ∷ replicate 2 (false ∷ false ∷ true ∷ false ∷ []) ++ (false ∷ false ∷ true ∷ true ∷ []) ∷ []
unfolding opened leaving
stages_on = refl

-- ## Its walk

walk_is_10 : walk_time (replay leaving begun).plan 2 (ended_by (phases_again (replay leaving begun)) 2) ≡ 10
unfolding shown_opened
walk_is_10 = refl

a_walk : Meets begun (ticks all_off 10) (IsShown (replay leaving begun) Ring1 2 (λ x. x.walk_left) 10)
    (InEachTick (KeepsWalk 2 10 (replay leaving begun)) leaving begun (ticks all_off 10))
a_walk = record {
  stretch = stretch_of 10 (omega arith);
  shown = record {
    phase = ap (λ (x : Option ℕ × Option ℕ × Option ℕ × Option ℕ). x.0) at_begin;
    left = ap (λ (x : Option ℕ × Option ℕ × Option ℕ × Option ℕ). x.1) at_begin;
  };
  each = each_by (KeepsWalk 2 10 (replay leaving begun)) tests_times keeps leaving all_off begun 10
      (passes_first tests_times all_off (replay leaving begun) 10 23 (omega arith) stays_on);
}
  where
    keeps : (s : State) (row : Row) → tests_times s row ≡ true → KeepsWalk 2 10 (replay leaving begun) s row
    keeps s row h =
        let both = and_parts (walk_time s.plan 2 (ended_by (phases_given s row) 2) == 10) (not (is_resting_in_walk s.plan (phases_given s row) 2))
        (are_met s row h).walk in
        let ten : walk_time s.plan 2 (ended_by (phases_given s row) 2) ≡ 10 = eqb-true (walk_time s.plan 2 (ended_by (phases_given s row) 2)) 10 both.0 in
        let shown = walk_is_10 in
        record { time = omega (arith, ten, shown); moves_on = λ e. not-true (is_resting_in_walk s.plan (phases_given s row) 2) both.1 }

walk_would_show_9 : sooner 10 ((replay leaving begun).phases 2).pedestrian_timer ≡ 9
unfolding opened leaving
walk_would_show_9 = refl

-- ## Its pedestrian clearance

abbrev walked : List Input
walked = ticks all_off 10 ++ begun

-- the phase in service, what is left of its pedestrian clearance, how long that is, and what the mistake would show
abbrev Clearing : Type 0
Clearing = Option ℕ × Option ℕ × ℕ × ℕ

abbrev clearance_shown : State → Clearing
clearance_shown s =
    ((ring_1 s).phase, (ring_1 s).clearance_left, clearance_time s.plan 2 (ended_by (phases_again s) 2), sooner 10 (s.phases 2).pedestrian_timer)

at_clearance : clearance_shown (replay leaving walked) ≡ (Some 2, Some 10, 10, 9)
unfolding shown_opened
at_clearance = refl

clears_on : passes tests_times all_off (replay leaving walked) 10 ≡ true
clears_on =
    sym (ap (λ (s : State). passes tests_times all_off s 10) (ticked_is leaving all_off begun 10))
    ∙ passes_then tests_times all_off (replay leaving begun) 10 10 20 refl
    (passes_first tests_times all_off (replay leaving begun) 20 23 (omega arith) stays_on)

clearance_is_10 : clearance_time (replay leaving walked).plan 2 (ended_by (phases_again (replay leaving walked)) 2) ≡ 10
clearance_is_10 = ap (λ (x : Clearing). x.2) at_clearance

walked_at : (replay leaving walked).now ≡ 11
walked_at = let at = begun_at in let clock = now_then leaving all_off begun 10 in omega (arith, at, clock)

walked_taken : AreTaken leaving walked
walked_taken = all_taken leaving all_off begun 10 begun_taken (let at = begun_at in omega (arith, at))

a_clearance : Meets walked (ticks all_off 10) (IsShown (replay leaving walked) Ring1 2 (λ x. x.clearance_left) 10)
    (InEachTick (KeepsClearance 2 (replay leaving walked)) leaving walked (ticks all_off 10))
a_clearance = record {
  stretch = ticks_stretch leaving all_off walked 10 leaving_consistent walked_taken refl (let at = walked_at in omega (arith, at));
  shown = record { phase = ap (λ (x : Clearing). x.0) at_clearance; left = ap (λ (x : Clearing). x.1) at_clearance };
  each = each_by (KeepsClearance 2 (replay leaving walked)) tests_times keeps leaving all_off walked 10 clears_on;
}
  where
    keeps : (s : State) (row : Row) → tests_times s row ≡ true → KeepsClearance 2 (replay leaving walked) s row
    keeps s row h =
        let ten : clearance_time s.plan 2 (ended_by (phases_given s row) 2) ≡ 10 = eqb-true (clearance_time s.plan 2 (ended_by (phases_given s row) 2)) 10
        (are_met s row h).clearance in
        let shown = clearance_is_10 in
        omega (arith, ten, shown)

clearance_would_show_9 : sooner 10 ((replay leaving walked).phases 2).pedestrian_timer ≡ 9
clearance_would_show_9 = ap (λ (x : Clearing). x.3) at_clearance

-- ## Its initial time

initial_is_20 : time_to_last (replay leaving begun).plan (phases_again (replay leaving begun)) 2 (ended_by (phases_again (replay leaving begun)) 2) ≡ 20
unfolding shown_opened
initial_is_20 = refl

an_initial : Meets begun (ticks all_off 19) (IsShown (replay leaving begun) Ring1 2 (λ x. x.initial_left) 20)
    (InEachTick (KeepsInitial 2 (replay leaving begun)) leaving begun (Tick all_off ∷ ticks all_off 19))
an_initial = record {
  stretch = stretch_of 19 (omega arith);
  shown = record {
    phase = ap (λ (x : Option ℕ × Option ℕ × Option ℕ × Option ℕ). x.0) at_begin;
    left = ap (λ (x : Option ℕ × Option ℕ × Option ℕ × Option ℕ). x.2) at_begin;
  };
  each = each_by (KeepsInitial 2 (replay leaving begun)) tests_times keeps leaving all_off begun 20
      (passes_first tests_times all_off (replay leaving begun) 20 23 (omega arith) stays_on);
}
  where
    keeps : (s : State) (row : Row) → tests_times s row ≡ true → KeepsInitial 2 (replay leaving begun) s row
    keeps s row h =
        let all : time_to_last s.plan (phases_given s row) 2 (ended_by (phases_given s row) 2) ≡ 20 =
        eqb-true (time_to_last s.plan (phases_given s row) 2 (ended_by (phases_given s row) 2)) 20 (are_met s row h).initial in
        let shown = initial_is_20 in
        omega (arith, all, shown)

initial_would_show_19 : sooner 20 ((replay leaving begun).phases 2).timer ≡ 19
unfolding opened leaving
initial_would_show_19 = refl

-- ## Its gap

gap_is_23 : gap (replay leaving begun).plan 2 ((replay leaving begun).phases 2).reduction ≡ 23
unfolding opened leaving
gap_is_23 = refl

has_no_output : is_on ((replay leaving begun).phases 2).passage ≡ true
unfolding opened leaving
has_no_output = refl

a_gap : Meets begun (ticks all_off 22) (IsShown (replay leaving begun) Ring1 2 (λ x. x.gap_left) 23)
    (InEachTick (KeepsGap 2 (replay leaving begun)) leaving begun (Tick all_off ∷ ticks all_off 22))
a_gap = record {
  stretch = stretch_of 22 (omega arith);
  shown = record {
    phase = ap (λ (x : Option ℕ × Option ℕ × Option ℕ × Option ℕ). x.0) at_begin;
    left = ap (λ (x : Option ℕ × Option ℕ × Option ℕ × Option ℕ). x.3) at_begin;
  };
  each = each_by (KeepsGap 2 (replay leaving begun)) tests_times keeps leaving all_off begun 23 stays_on;
}
  where
    keeps : (s : State) (row : Row) → tests_times s row ≡ true → KeepsGap 2 (replay leaving begun) s row
    keeps s row h =
        let outer = and_parts (is_green (interval s 2)) (not ((phases_given s row).output 2)
        && gap s.plan 2 (reduction_timer s.plan (phases_given s row) 2 (held_of (phase_read s 2))) == 23) (are_met s row h).gap in
        let inner = and_parts (not ((phases_given s row).output 2))
        (gap s.plan 2 (reduction_timer s.plan (phases_given s row) 2 (held_of (phase_read s 2))) == 23) outer.1 in
        let now : gap s.plan 2 (reduction_timer s.plan (phases_given s row) 2 (held_of (phase_read s 2))) ≡ 23 =
        eqb-true (gap s.plan 2 (reduction_timer s.plan (phases_given s row) 2 (held_of (phase_read s 2)))) 23 inner.1 in
        let shown = gap_is_23 in
        record { green = is_in_green (interval s 2) outer.0; quiet = not-true ((phases_given s row).output 2) inner.0; time = omega (arith, now, shown) }

gap_would_show_22 : sooner 23 ((replay leaving begun).phases 2).passage ≡ 22
unfolding opened leaving
gap_would_show_22 = refl

-- ## Its maximum, where 1 is called

abbrev pub called : List Input
called = Tick (vehicle 1) ∷ begun

pub called_taken : AreTaken leaving called
unfolding opened leaving
called_taken = ((tt, refl), refl)

pub called_at : (replay leaving called).now ≡ 2
unfolding opened leaving
called_at = refl

-- the phase in service, and what is left of its maximum
abbrev maximum_shown : State → Option ℕ × Option ℕ
maximum_shown s = ((ring_1 s).phase, (ring_1 s).maximum_left)

at_call : maximum_shown (replay leaving called) ≡ (Some 2, Some 20)
unfolding shown_opened
at_call = refl

abbrev is_twenty : Option ℕ → Bool
is_twenty None = false
is_twenty (Some m) = m == 20

twenty : (o : Option ℕ) → is_twenty o ≡ true → o ≡ Some 20
twenty None h = cc
twenty (Some m) h = ap Some (eqb-true m 20 h)

abbrev tests_maximum : State → Row → Bool
tests_maximum s row =
    is_green (interval s 2) && ((phases_given s row).conflict 2 && is_twenty (acting_maximum s.plan (runs s) 2 (s.phases 2).running_maximum))

presses_on : passes tests_maximum (vehicle 1) (replay leaving called) 20 ≡ true
unfolding opened leaving
presses_on = refl

maximum_is_20 : acting_maximum (replay leaving called).plan (runs (replay leaving called)) 2 ((replay leaving called).phases 2).running_maximum ≡ Some 20
unfolding opened leaving
maximum_is_20 = refl

a_maximum : Meets called (ticks (vehicle 1) 19) (IsShown (replay leaving called) Ring1 2 (λ x. x.maximum_left) 20)
    (InEachTick (KeepsMaximum 2 (replay leaving called)) leaving called (Tick (vehicle 1) ∷ ticks (vehicle 1) 19))
a_maximum = record {
  stretch = ticks_stretch leaving (vehicle 1) called 19 leaving_consistent called_taken refl (let at = called_at in omega (arith, at));
  shown = record { phase = ap (λ (x : Option ℕ × Option ℕ). x.0) at_call; left = ap (λ (x : Option ℕ × Option ℕ). x.1) at_call };
  each = each_by (KeepsMaximum 2 (replay leaving called)) tests_maximum keeps leaving (vehicle 1) called 20 presses_on;
}
  where
    keeps : (s : State) (row : Row) → tests_maximum s row ≡ true → KeepsMaximum 2 (replay leaving called) s row
    keeps s row h =
        let outer = and_parts (is_green (interval s 2))
        ((phases_given s row).conflict 2 && is_twenty (acting_maximum s.plan (runs s) 2 (s.phases 2).running_maximum)) h in
        let inner = and_parts ((phases_given s row).conflict 2) (is_twenty (acting_maximum s.plan (runs s) 2 (s.phases 2).running_maximum)) outer.1 in
        record {
          green = is_in_green (interval s 2) outer.0;
          conflict = inner.0;
          time = twenty (acting_maximum s.plan (runs s) 2 (s.phases 2).running_maximum) inner.1 ∙ sym maximum_is_20;
        }

-- it maxes out in the 20th tick
maxes_out_in_20 : shows (λ s. is_maxed_out 2 s (vehicle 1)) (vehicle 1) (replay leaving called) 19 ≡ replicate 19 false ++ true ∷ []
unfolding opened leaving
maxes_out_in_20 = refl

-- a mistake: it is timed from the beginning of the green, and not from that of the conflict
maximum_would_show_19 : left 20 ((replay leaving called).phases 2).timer ≡ 19
unfolding opened leaving
maximum_would_show_19 = refl
