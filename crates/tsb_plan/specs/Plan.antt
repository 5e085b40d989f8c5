-- The plan that every definition reads: what each object of NTCIP 1202 is at each index, and how many phases, sides,
-- detectors, overlaps and preempts there are. `value` is in the object's own unit; the times named below it are in
-- tenths of a second. Sides are the profile's own.
use Rattle.std.specs.Prelude.{ℕ, ◌+◌, ◌-◌, ◌*◌, ◌==◌, Bool, ◌&&◌, if◌then◌else◌, List, [], ◌∷◌, ◌++◌, map, max}
use Rattle.tsb_plan.specs.declared.object.Object.{Object}
use Rattle.tsb_plan.specs.declared.object.Object.TheVariants.{PhaseEnabled, PhaseNonLock, PhaseMinRecall, PhaseMaxRecall, PhasePedRecall, PhaseSoftRecall, PhaseDualEntry, PhaseSimGapDisable, PhaseRestInWalk, PhaseVariableInitial, PhaseRing, PhaseSide, PhaseConcurrency, PhaseWalk, PhasePedestrianClear, PhaseMinimumGreen, PhaseMaximum1, PhaseMaximum2, PhaseMaximumInitial, PhaseTimeBeforeReduction, PhaseTimeToReduce, PhasePassage, PhaseYellowChange, PhaseRedClear, PhaseRedRevert, PhaseAddedInitial, PhaseMinimumGap, PhaseCarsBeforeReduction, SequenceData, UnitRedRevert, UnitMax2, PhaseDynamicMaxLimit, PhaseDynamicMaxStep, PhasePedestrianRecycle}
use Rattle.tsb_types.specs.declared.limits.TheConstants.{VEHICLE_DETECTORS, PEDESTRIAN_DETECTORS, OVERLAPS, PREEMPTS}
use Rattle.tsb_types.specs.Lists.{run_from}
use Rattle.tsb_plan.specs.Objects.{order}
use Rattle.tsb_types.specs.Sets.{names}

-- how many there are of each thing besides phases and sides, numbered from 1
pub record Counts : Type 0 where
  pub vehicle_detectors : ℕ
  pub pedestrian_detectors : ℕ
  pub overlaps : ℕ
  pub preempts : ℕ

-- as many as a plan in memory has
abbrev pub all_counts : Counts
all_counts = record {
  vehicle_detectors = VEHICLE_DETECTORS;
  pedestrian_detectors = PEDESTRIAN_DETECTORS;
  overlaps = OVERLAPS;
  preempts = PREEMPTS;
}

-- as many as plan texts of versions 1 and 2 have
abbrev pub narrow_counts : Counts
narrow_counts = record { vehicle_detectors = 16; pedestrian_detectors = 8; overlaps = 4; preempts = 4 }

-- a plan as every definition reads it, without cells: the value of each object of NTCIP 1202 at each index
pub record Plan : Type 0 where
  -- how many phases there are, numbered from 1, and how many sides
  pub phase_count : ℕ
  pub side_count : ℕ
  -- how many detectors, overlaps and preempts
  pub counts : Counts
  -- the value of an object at an index, 0 where the plan gives none
  pub value : Object → ℕ → ℕ

-- all phase numbers
abbrev pub phases : Plan → List ℕ
phases plan = run_from 1 plan.phase_count

-- the phase is in use: one that is not is never served, and its heads are dark
abbrev pub is_enabled : Plan → ℕ → Bool
is_enabled plan p = plan.value PhaseEnabled p == 1

-- non-locking detector memory: a vehicle call lasts only while the detector's output is on
abbrev pub is_non_locking : Plan → ℕ → Bool
is_non_locking plan p = plan.value PhaseNonLock p == 1

-- the phase is called at all times; its green may gap out
abbrev pub has_minimum_recall : Plan → ℕ → Bool
has_minimum_recall plan p = plan.value PhaseMinRecall p == 1

-- the phase is called at all times, and no gap ends its green
abbrev pub has_maximum_recall : Plan → ℕ → Bool
has_maximum_recall plan p = plan.value PhaseMaxRecall p == 1

-- a pedestrian call stands at all times; K11: the phase has a walk
abbrev pub has_pedestrian_recall : Plan → ℕ → Bool
has_pedestrian_recall plan p = plan.value PhasePedRecall p == 1

-- the phase is called where no phase at all is callable otherwise
abbrev pub has_soft_recall : Plan → ℕ → Bool
has_soft_recall plan p = plan.value PhaseSoftRecall p == 1

-- the phase may enter without a call, when a crossing of the barrier starts a concurrent phase in the other ring
abbrev pub has_dual_entry : Plan → ℕ → Bool
has_dual_entry plan p = plan.value PhaseDualEntry p == 1

-- once gapped out with a conflict the phase stays so until the conflict goes: no later actuation extends its green
abbrev pub disables_simultaneous_gap : Plan → ℕ → Bool
disables_simultaneous_gap plan p = plan.value PhaseSimGapDisable p == 1

-- its walk goes on past its time until there is a conflict, or a preempt ends the phase
abbrev pub rests_in_walk : Plan → ℕ → Bool
rests_in_walk plan p = plan.value PhaseRestInWalk p == 1

-- as a coordinated phase it may walk again within its green (profile)
abbrev pub recycles_walk : Plan → ℕ → Bool
recycles_walk plan p = plan.value PhasePedestrianRecycle p == 1

-- the initial time grows with the vehicles counted, by the added initial for each (profile)
abbrev pub has_variable_initial : Plan → ℕ → Bool
has_variable_initial plan p = plan.value PhaseVariableInitial p == 1

-- the ring of the phase, 1 or 2; 0 for none
abbrev pub ring_of : Plan → ℕ → ℕ
ring_of plan p = plan.value PhaseRing p

-- the side of the barriers on which the phase is, 1 to 4 (profile); 0 for none
abbrev pub side_of : Plan → ℕ → ℕ
side_of plan p = plan.value PhaseSide p

-- the concurrency list of p names q: the two may be in service together
abbrev pub is_concurrent : Plan → ℕ → ℕ → Bool
is_concurrent plan p q = names (plan.value PhaseConcurrency p) q

-- the time of its walk, in tenths of a second; 0 where the phase serves no pedestrians
abbrev pub walk : Plan → ℕ → ℕ
walk plan p = 10 * plan.value PhaseWalk p

-- the time of the pedestrian clearance after a walk, in tenths of a second; 0 for no clearance
abbrev pub pedestrian_clear : Plan → ℕ → ℕ
pedestrian_clear plan p = 10 * plan.value PhasePedestrianClear p

-- the least time of a green that no preempt ends, in tenths of a second; a variable initial may be longer
abbrev pub minimum_green : Plan → ℕ → ℕ
minimum_green plan p = 10 * plan.value PhaseMinimumGreen p

-- the maximum green, in tenths of a second, timed while there is a conflict: phaseMaximum1, or phaseMaximum2 where
-- unitMax2 is 1
abbrev pub maximum : Plan → ℕ → ℕ
maximum plan p = 10 * plan.value (if plan.value UnitMax2 1 == 1 then PhaseMaximum2 else PhaseMaximum1) p

-- the most to which counted vehicles bring the initial time, in tenths of a second
abbrev pub maximum_initial : Plan → ℕ → ℕ
maximum_initial plan p = 10 * plan.value PhaseMaximumInitial p

-- what each counted vehicle adds to the initial time, in tenths of a second
abbrev pub added_initial : Plan → ℕ → ℕ
added_initial plan p = plan.value PhaseAddedInitial p

-- the passage time, which is the gap until gap reduction begins, in tenths of a second
abbrev pub passage : Plan → ℕ → ℕ
passage plan p = plan.value PhasePassage p

-- the gap that gap reduction ends with, in tenths of a second; K9: at most the passage time
abbrev pub minimum_gap : Plan → ℕ → ℕ
minimum_gap plan p = plan.value PhaseMinimumGap p

-- how long a conflict lasts before gap reduction begins, in tenths of a second
abbrev pub time_before_reduction : Plan → ℕ → ℕ
time_before_reduction plan p = 10 * plan.value PhaseTimeBeforeReduction p

-- so many vehicles at phases that it keeps waiting begin gap reduction before that time; 0: no number of them does
abbrev pub cars_before_reduction : Plan → ℕ → ℕ
cars_before_reduction plan p = plan.value PhaseCarsBeforeReduction p

-- how long the gap takes to fall from passage time to minimum gap, in tenths of a second; 0 for at once
abbrev pub time_to_reduce : Plan → ℕ → ℕ
time_to_reduce plan p = 10 * plan.value PhaseTimeToReduce p

-- the running maximum stays between this and the maximum, in tenths of a second. With 0 here, or with a step of 0,
-- there is no dynamic maximum
abbrev pub dynamic_maximum_limit : Plan → ℕ → ℕ
dynamic_maximum_limit plan p = 10 * plan.value PhaseDynamicMaxLimit p

-- how far the running maximum goes up after max-outs and down after gap-outs, in tenths of a second
abbrev pub dynamic_maximum_step : Plan → ℕ → ℕ
dynamic_maximum_step plan p = plan.value PhaseDynamicMaxStep p

-- how long its yellow change lasts, in tenths of a second; K8: at least 30
abbrev pub yellow_change : Plan → ℕ → ℕ
yellow_change plan p = plan.value PhaseYellowChange p

-- how long its red clearance lasts, in tenths of a second; 0 for no red clearance
abbrev pub red_clear : Plan → ℕ → ℕ
red_clear plan p = plan.value PhaseRedClear p

-- how long after its yellow change the phase may not start again, in tenths of a second: the larger of its own time and
-- the unit's
abbrev pub red_revert : Plan → ℕ → ℕ
red_revert plan p = max (plan.value PhaseRedRevert p) (plan.value UnitRedRevert 1)

-- what a sequence has for a ring, place by place; 0 for no phase
abbrev pub sequence : Plan → ℕ → ℕ → List ℕ
sequence plan s r =
    map (λ k. plan.value SequenceData (2 * plan.phase_count * (s - 1) + plan.phase_count * (r - 1) + k)) (phases plan)

-- the other sides in cyclic order, beginning after this one
abbrev pub sides_after : Plan → ℕ → List ℕ
sides_after plan side = run_from (side + 1) (plan.side_count - side) ++ run_from 1 (side - 1)

-- no object is given
abbrev pub empty : Plan
empty = record { phase_count = 16; side_count = 4; counts = all_counts; value = λ o i. 0 }

-- the object o at index i is the object p at index k; objects are compared by their places
abbrev pub is_same : Object → ℕ → Object → ℕ → Bool
is_same o i p k = (order o == order p) && (i == k)

-- the plan with another value of one object at one index
abbrev pub with_value : Plan → Object → ℕ → ℕ → Plan
with_value plan o i v = record {
  phase_count = plan.phase_count;
  side_count = plan.side_count;
  counts = plan.counts;
  value = λ p k. if is_same o i p k then v else plan.value p k;
}

-- the plan with each of these values in turn
abbrev pub with_values : Plan → List (Object × ℕ × ℕ) → Plan
with_values plan [] = plan
with_values plan (e ∷ es) = with_values (with_value plan e.0 e.1 e.2) es
