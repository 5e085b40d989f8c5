-- Which objects a plan takes, by its numbers of phases, sides, detectors, overlaps and preempts. With 16 phases, 4 sides
-- and all of the others this is the table of objects; with fewer of these it is that of version 2 of plan texts, with
-- overlaps that may be arrows; with 8 phases and 2 sides besides it is that of version 1.
use Rattle.std.specs.Prelude.{◌≡◌, ℕ, ◌+◌, ◌-◌, ◌*◌, ◌^◌, nat_le, ◌==◌, Bool, true, not, ◌&&◌, ◌||◌, if◌then◌else◌, Option, Some, None, refl}
use Rattle.std.specs.List.{list_all}
use Rattle.tsb_types.specs.declared.refusal.Refusal.{Refusal}
use Rattle.tsb_types.specs.declared.refusal.Refusal.TheVariants.{NoSuchObject, OutOfRange}
use Rattle.tsb_objects.specs.tsb_plan.declared.object.Object.{Object}
use Rattle.tsb_objects.specs.tsb_plan.declared.object.Object.TheVariants.{PhaseSide, PhaseConcurrency, VehicleDetectorCallPhase, PedestrianDetectorCallPhase, OverlapIncludedPhases, SequenceData, PreemptTrackPhase, PreemptDwellPhase, PreemptExitPhase, PhaseDynamicMaxLimit, PhaseDynamicMaxStep, OverlapType, OverlapModifierPhases}
use Rattle.tsb_objects.specs.tsb_plan.declared.object.ObjectId.{ObjectId}
use Rattle.tsb_objects.specs.tsb_plan.declared.version.Version.{Version}
use Rattle.tsb_objects.specs.tsb_plan.declared.version.TheConstants.Version.{NEWEST}
use Rattle.tsb_objects.specs.tsb_plan.declared.version.Version.TheVariants.{One, Two}
use Rattle.tsb_objects.specs.tsb_plan.Objects.{objects, indices, greatest}
use Rattle.tsb_objects.specs.tsb_plan.Plan.{Plan, Counts, all_counts, narrow_counts}
use Rattle.tsb_objects.specs.tsb_plan.Versions.{is_by_phase, is_in_rows, indices_by, has_object, indices_in, greatest_in}

-- the index of the object is a phase
abbrev pub is_of_phases : Object → Bool
is_of_phases PhaseDynamicMaxLimit = true
is_of_phases PhaseDynamicMaxStep = true
is_of_phases o = is_by_phase o

-- how many indices it has, from 1 on, where there are n phases, and so many detectors, overlaps and preempts
abbrev pub indices_for : ℕ → Counts → Object → ℕ
indices_for n counts o = if is_of_phases o then n else (if is_in_rows o then 8 * n else indices_by counts o)

-- its greatest value, where there are n phases and d sides
abbrev pub greatest_for : ℕ → ℕ → Object → ℕ
greatest_for n d PhaseSide = d
greatest_for n d PhaseConcurrency = 2 ^ n - 1
greatest_for n d OverlapIncludedPhases = 2 ^ n - 1
greatest_for n d OverlapModifierPhases = 2 ^ n - 1
greatest_for n d PreemptTrackPhase = 2 ^ n - 1
greatest_for n d PreemptDwellPhase = 2 ^ n - 1
greatest_for n d PreemptExitPhase = 2 ^ n - 1
greatest_for n d VehicleDetectorCallPhase = n
greatest_for n d PedestrianDetectorCallPhase = n
greatest_for n d SequenceData = n
greatest_for n d o = greatest o

-- the version of plan texts whose objects a plan has: version 1 with 8 phases, else the newest
abbrev pub version_of : Plan → Version
version_of plan = if plan.phase_count == 8 then One else NEWEST

-- the object has the index by the plan's own numbers
abbrev pub has_place : Plan → Object → ℕ → Bool
has_place plan o i = nat_le 1 i && nat_le i (indices_for plan.phase_count plan.counts o)

-- its greatest value by the plan's own numbers of phases and sides
abbrev pub greatest_of : Plan → Object → ℕ
greatest_of plan o = greatest_for plan.phase_count plan.side_count o

-- why the plan does not take a value, if it does not: E2 for the object and the index first, then E3 for the value
abbrev pub place_refusal : Plan → ObjectId → ℕ → Option Refusal
place_refusal plan id v =
    if has_object (version_of plan) id.object && has_place plan id.object id.index
    then (if nat_le v (greatest_of plan id.object) then None else Some OutOfRange)
    else Some NoSuchObject

-- ## The three tables

-- with 16 phases, 4 sides and all of the others it has as many indices and the same greatest value as in the table of
-- objects
abbrev pub is_as_in_table : Object → Bool
is_as_in_table o = (indices_for 16 all_counts o == indices o) && (greatest_for 16 4 o == greatest o)

-- so has each of the objects
pub all_as_in_table : list_all is_as_in_table objects ≡ true
unfolding objects
all_as_in_table = refl

-- its greatest value with version 2 of plan texts, and with one type of overlaps more: arrows, which version 3 has
abbrev pub greatest_with_arrows : Object → ℕ
greatest_with_arrows OverlapType = greatest_in Two OverlapType + 1
greatest_with_arrows o = greatest_in Two o

-- with fewer detectors, overlaps and preempts it has those of version 2 of plan texts, if version 2 has the object
abbrev pub is_as_in_version_2 : Object → Bool
is_as_in_version_2 o =
    not (has_object Two o)
    || ((indices_for 16 narrow_counts o == indices_in Two o) && (greatest_for 16 4 o == greatest_with_arrows o))

-- so has each of the objects
pub all_as_in_version_2 : list_all is_as_in_version_2 objects ≡ true
unfolding objects
all_as_in_version_2 = refl

-- with 8 phases and 2 sides besides it has those of version 1 of plan texts, if version 1 has the object
abbrev pub is_as_in_version_1 : Object → Bool
is_as_in_version_1 o =
    not (has_object One o) || ((indices_for 8 narrow_counts o == indices_in One o) && (greatest_for 8 2 o == greatest_in One o))

-- so has each of the objects
pub all_as_in_version_1 : list_all is_as_in_version_1 objects ≡ true
unfolding objects
all_as_in_version_1 = refl
