-- The versions of plan texts: which objects each has, at how many indices, up to which value, and the index in a plan of
-- what a text names. The last version is the table of objects; this says how those before it differ.
use Rattle.std.specs.Prelude.{ℕ, ◌+◌, ◌-◌, ◌*◌, ◌/◌, ◌%◌, Bool, true, false, ◌&&◌, nat_le, if◌then◌else◌, Option, Some, None}
use Rattle.tsb_plan.specs.declared.object.Object.{Object}
use Rattle.tsb_plan.specs.declared.object.Object.TheVariants.{PhaseCarsBeforeReduction, VehicleDetectorCallPhase, VehicleDetectorFailTime, PedestrianDetectorCallPhase, OverlapIncludedPhases, SplitTime, SplitMode, SplitCoordPhase, SequenceData, PreemptDelay, PreemptExitPhase, OverlapType, OverlapModifierPhases, OverlapAcrossRings, PreemptChoosesAnew, OverlapArrowDelay, OverlapArrowPedestrian, OverlapTrailGreen, OverlapTrailYellow, OverlapTrailRed}
use Rattle.tsb_plan.specs.declared.object.Range.{Range}
use Rattle.tsb_plan.specs.declared.version.Version.{Version}
use Rattle.tsb_plan.specs.declared.version.Version.TheVariants.{One, Two, Three}
use Rattle.tsb_plan.specs.Objects.{Since, since_version_1, since_version_2, since_version_3, order, row, since}
use Rattle.tsb_plan.specs.Plan.{Counts, narrow_counts}

-- the number that a text of the version has
abbrev pub number_of : Version → ℕ
number_of One = 1
number_of Two = 2
number_of Three = 3

-- the first version has what there is since the second
abbrev pub includes : Version → Version → Bool
includes One One = true
includes One Two = false
includes One Three = false
includes Two One = true
includes Two Two = true
includes Two Three = false
includes Three v = true

-- the version's texts may name the object
abbrev pub has_object : Version → Object → Bool
has_object v o = includes v (since o)

-- its index is a phase, in version 1 too: from phaseEnabled to phaseCarsBeforeReduction
abbrev pub is_by_phase : Object → Bool
is_by_phase o = nat_le (order o) (order PhaseCarsBeforeReduction)

-- its index counts the phases of one split table after those of another
abbrev pub is_split : Object → Bool
is_split SplitTime = true
is_split SplitMode = true
is_split SplitCoordPhase = true
is_split o = false

-- its index counts rows, each of a split table's phases or of a sequence's places for one ring
abbrev pub is_in_rows : Object → Bool
is_in_rows SequenceData = true
is_in_rows o = is_split o

-- the range of version 1, and that of a plan where version 1 has none
abbrev or_else : Since → Range → Range
or_else (since_version_1 narrow) wide = narrow
or_else since_version_2 wide = wide
or_else since_version_3 wide = wide

-- the object is in the table between the first and the second, both included
abbrev is_from : Object → Object → Object → Bool
is_from first last o = nat_le (order first) (order o) && nat_le (order o) (order last)

-- its index is a vehicle detector
abbrev pub is_by_detector : Object → Bool
is_by_detector o = is_from VehicleDetectorCallPhase VehicleDetectorFailTime o

-- its index is an overlap
abbrev pub is_by_overlap : Object → Bool
is_by_overlap OverlapIncludedPhases = true
is_by_overlap OverlapType = true
is_by_overlap OverlapModifierPhases = true
is_by_overlap OverlapAcrossRings = true
is_by_overlap OverlapArrowDelay = true
is_by_overlap OverlapArrowPedestrian = true
is_by_overlap OverlapTrailGreen = true
is_by_overlap OverlapTrailYellow = true
is_by_overlap OverlapTrailRed = true
is_by_overlap o = false

-- its index is a preempt
abbrev pub is_by_preempt : Object → Bool
is_by_preempt PreemptChoosesAnew = true
is_by_preempt o = is_from PreemptDelay PreemptExitPhase o

-- how many indices it has where there are so many detectors, overlaps and preempts
abbrev pub indices_by : Counts → Object → ℕ
indices_by counts PedestrianDetectorCallPhase = counts.pedestrian_detectors
indices_by counts o =
    if is_by_detector o then counts.vehicle_detectors
    else (if is_by_overlap o then counts.overlaps else (if is_by_preempt o then counts.preempts else (row o).range.indices))

-- the greatest value that version 2 gives it: an overlap is of no type 2, and all else has that of a plan
abbrev pub greatest_of_two : Object → ℕ
greatest_of_two OverlapType = 1
greatest_of_two o = (row o).range.greatest

-- the object's range in the version; for one that the version has not, its range in a plan
abbrev range_of : Version → Object → Range
range_of One o = or_else (row o).since (row o).range
range_of Two o = record { indices = indices_by narrow_counts o; greatest = greatest_of_two o }
range_of Three o = (row o).range

-- how many indices the object has, from 1 on
abbrev pub indices_in : Version → Object → ℕ
indices_in v o = (range_of v o).indices

-- the greatest value of the object; the least is 0
abbrev pub greatest_in : Version → Object → ℕ
greatest_in v o = (range_of v o).greatest

-- the object's range in the version, or `None` where the version has no such object
abbrev pub range_in : Version → Object → Option Range
range_in v o = if has_object v o then Some (record { indices = indices_in v o; greatest = greatest_in v o }) else None

-- the version has the object at the index
abbrev pub has_index_in : Version → Object → ℕ → Bool
has_index_in v o i = has_object v o && (nat_le 1 i && nat_le i (indices_in v o))

-- the index in a plan of what the version has at the index: the same place of the same row
abbrev pub translated : Version → Object → ℕ → ℕ
translated One o i = if is_in_rows o then 16 * ((i - 1) / 8) + (i - 1) % 8 + 1 else i
translated Two o i = i
translated Three o i = i
