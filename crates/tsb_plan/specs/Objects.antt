-- The table of objects of a plan, in the order of their cells: the name of each, how many indices it has and its
-- greatest value, and since which version plan texts have it, with what version 1 has of it. Names are those of NTCIP
-- 1202; ranges of detector, pattern and preempt objects are the profile's.
use Rattle.std.specs.Prelude.{ℕ, ◌+◌, ◌-◌, ◌≤◌, Bool, true, false, ◌&&◌, nat_le, if◌then◌else◌, List, codes, sum_by, take, slice_index}
use Rattle.tsb_plan.specs.declared.object.Object.{Object}
use Rattle.tsb_plan.specs.declared.object.Object.TheVariants.{PhaseEnabled, PhaseNonLock, PhaseMinRecall, PhaseMaxRecall, PhasePedRecall, PhaseSoftRecall, PhaseDualEntry, PhaseSimGapDisable, PhaseRestInWalk, PhaseVariableInitial, PhaseRing, PhaseSide, PhaseConcurrency, PhaseWalk, PhasePedestrianClear, PhaseMinimumGreen, PhaseMaximum1, PhaseMaximum2, PhaseMaximumInitial, PhaseTimeBeforeReduction, PhaseTimeToReduce, PhasePassage, PhaseYellowChange, PhaseRedClear, PhaseRedRevert, PhaseAddedInitial, PhaseMinimumGap, PhaseCarsBeforeReduction, VehicleDetectorCallPhase, VehicleDetectorDelay, VehicleDetectorExtend, VehicleDetectorNoActivity, VehicleDetectorMaxPresence, VehicleDetectorErraticCounts, VehicleDetectorFailTime, PedestrianDetectorCallPhase, OverlapIncludedPhases, PatternCycleTime, PatternOffsetTime, PatternSplitNumber, PatternSequenceNumber, SplitTime, SplitMode, SplitCoordPhase, SequenceData, PreemptDelay, PreemptMinimumDuration, PreemptMaximumPresence, PreemptMinimumGreen, PreemptMinimumWalk, PreemptEnterPedClear, PreemptTrackGreen, PreemptTrackPhase, PreemptDwellPhase, PreemptExitPhase, UnitRedRevert, UnitMax2, PhaseDynamicMaxLimit, PhaseDynamicMaxStep, OverlapType, OverlapModifierPhases, CoordForceMode, CoordMaximumMode, PatternPermissiveTime, PatternLeadLag, PhasePedestrianRecycle, CoordCorrectionMode, CoordCorrectionLimit, OverlapAcrossRings, PreemptChoosesAnew, CoordReference, TimeBaseScheduleMonth, TimeBaseScheduleDay, TimeBaseScheduleDate, TimeBaseScheduleDayPlan, DayPlanHour, DayPlanMinute, DayPlanActionNumber, TimebaseAscPattern, OverlapArrowDelay, OverlapArrowPedestrian, OverlapTrailGreen, OverlapTrailYellow, OverlapTrailRed, ActionArrowOmit, ChannelControlSource, ChannelControlType}
use Rattle.tsb_plan.specs.declared.object.Range.{Range}
use Rattle.tsb_plan.specs.declared.object.TheConstants.Object.{ALL}
use Rattle.tsb_plan.specs.declared.version.Version.{Version}
use Rattle.tsb_plan.specs.declared.version.Version.TheVariants.{One, Two, Three}

-- since which version plan texts have an object
pub data Since : Type 0 where
  -- since version 1, which has it with these indices and values
  since_version_1 : Range → Since
  since_version_2 : Since
  since_version_3 : Since

-- what there is to know of an object
pub record ObjectRow : Type 0 where
  -- its place among all objects, from 0
  pub place : ℕ
  -- its name, as plan texts have it
  pub name : List ℕ
  -- its indices, from 1 on, and its values, from 0 on, in a plan
  pub range : Range
  -- since which version plan texts have it
  pub since : Since
  -- a commit that changes it is refused while a phase is in service
  pub is_structural : Bool

-- the indices from 1 to the first number, and the values from 0 to the second
abbrev to : ℕ → ℕ → Range
to i v = record { indices = i; greatest = v }

-- all versions of plan texts have the object, version 1 with these indices and values
abbrev in_1 : ℕ → ℕ → Since
in_1 i v = since_version_1 (to i v)

-- versions 2 and 3 have it
abbrev since_2 : Since
since_2 = since_version_2

-- version 3 alone has it
abbrev since_3 : Since
since_3 = since_version_3

-- a commit may change it only while no phase is in service
abbrev structural : Bool
structural = true

-- a commit may change it at any time
abbrev free : Bool
free = false

-- a row of the table: place, name, range in a plan, since which version texts have it, and whether it is structural
abbrev object : ℕ → List ℕ → Range → Since → Bool → ObjectRow
object k n r v s = record { place = k; name = n; range = r; since = v; is_structural = s }

-- THE TABLE OF OBJECTS: the place of each, its name, how many indices it has and its greatest value in a plan, those in
-- version 1 or the first version that has it, and whether it is structural
abbrev pub row : Object → ObjectRow
row PhaseEnabled = object 0 (codes "phaseEnabled") (to 16 1) (in_1 8 1) structural
row PhaseNonLock = object 1 (codes "phaseNonLock") (to 16 1) (in_1 8 1) free
row PhaseMinRecall = object 2 (codes "phaseMinRecall") (to 16 1) (in_1 8 1) free
row PhaseMaxRecall = object 3 (codes "phaseMaxRecall") (to 16 1) (in_1 8 1) free
row PhasePedRecall = object 4 (codes "phasePedRecall") (to 16 1) (in_1 8 1) free
row PhaseSoftRecall = object 5 (codes "phaseSoftRecall") (to 16 1) (in_1 8 1) free
row PhaseDualEntry = object 6 (codes "phaseDualEntry") (to 16 1) (in_1 8 1) free
row PhaseSimGapDisable = object 7 (codes "phaseSimGapDisable") (to 16 1) (in_1 8 1) free
row PhaseRestInWalk = object 8 (codes "phaseRestInWalk") (to 16 1) (in_1 8 1) free
row PhaseVariableInitial = object 9 (codes "phaseVariableInitial") (to 16 1) (in_1 8 1) free
row PhaseRing = object 10 (codes "phaseRing") (to 16 2) (in_1 8 2) structural
row PhaseSide = object 11 (codes "phaseSide") (to 16 4) (in_1 8 2) structural
row PhaseConcurrency = object 12 (codes "phaseConcurrency") (to 16 65535) (in_1 8 255) structural
row PhaseWalk = object 13 (codes "phaseWalk") (to 16 255) (in_1 8 255) free
row PhasePedestrianClear = object 14 (codes "phasePedestrianClear") (to 16 255) (in_1 8 255) free
row PhaseMinimumGreen = object 15 (codes "phaseMinimumGreen") (to 16 255) (in_1 8 255) free
row PhaseMaximum1 = object 16 (codes "phaseMaximum1") (to 16 255) (in_1 8 255) free
row PhaseMaximum2 = object 17 (codes "phaseMaximum2") (to 16 255) (in_1 8 255) free
row PhaseMaximumInitial = object 18 (codes "phaseMaximumInitial") (to 16 255) (in_1 8 255) free
row PhaseTimeBeforeReduction = object 19 (codes "phaseTimeBeforeReduction") (to 16 255) (in_1 8 255) free
row PhaseTimeToReduce = object 20 (codes "phaseTimeToReduce") (to 16 255) (in_1 8 255) free
row PhasePassage = object 21 (codes "phasePassage") (to 16 255) (in_1 8 255) free
row PhaseYellowChange = object 22 (codes "phaseYellowChange") (to 16 255) (in_1 8 255) free
row PhaseRedClear = object 23 (codes "phaseRedClear") (to 16 255) (in_1 8 255) free
row PhaseRedRevert = object 24 (codes "phaseRedRevert") (to 16 255) (in_1 8 255) free
row PhaseAddedInitial = object 25 (codes "phaseAddedInitial") (to 16 255) (in_1 8 255) free
row PhaseMinimumGap = object 26 (codes "phaseMinimumGap") (to 16 255) (in_1 8 255) free
row PhaseCarsBeforeReduction = object 27 (codes "phaseCarsBeforeReduction") (to 16 255) (in_1 8 255) free
row VehicleDetectorCallPhase = object 28 (codes "vehicleDetectorCallPhase") (to 64 16) (in_1 16 8) free
row VehicleDetectorDelay = object 29 (codes "vehicleDetectorDelay") (to 64 2550) (in_1 16 2550) free
row VehicleDetectorExtend = object 30 (codes "vehicleDetectorExtend") (to 64 255) (in_1 16 255) free
row VehicleDetectorNoActivity = object 31 (codes "vehicleDetectorNoActivity") (to 64 255) (in_1 16 255) free
row VehicleDetectorMaxPresence = object 32 (codes "vehicleDetectorMaxPresence") (to 64 255) (in_1 16 255) free
row VehicleDetectorErraticCounts = object 33 (codes "vehicleDetectorErraticCounts") (to 64 255) (in_1 16 255) free
row VehicleDetectorFailTime = object 34 (codes "vehicleDetectorFailTime") (to 64 255) (in_1 16 255) free
row PedestrianDetectorCallPhase = object 35 (codes "pedestrianDetectorCallPhase") (to 16 16) (in_1 8 8) free
row OverlapIncludedPhases = object 36 (codes "overlapIncludedPhases") (to 16 65535) (in_1 4 255) structural
row PatternCycleTime = object 37 (codes "patternCycleTime") (to 16 255) (in_1 16 255) free
row PatternOffsetTime = object 38 (codes "patternOffsetTime") (to 16 254) (in_1 16 254) free
row PatternSplitNumber = object 39 (codes "patternSplitNumber") (to 16 8) (in_1 16 8) free
row PatternSequenceNumber = object 40 (codes "patternSequenceNumber") (to 16 4) (in_1 16 4) free
row SplitTime = object 41 (codes "splitTime") (to 128 255) (in_1 64 255) free
row SplitMode = object 42 (codes "splitMode") (to 128 5) (in_1 64 5) free
row SplitCoordPhase = object 43 (codes "splitCoordPhase") (to 128 1) (in_1 64 1) free
row SequenceData = object 44 (codes "sequenceData") (to 128 16) (in_1 64 8) free
row PreemptDelay = object 45 (codes "preemptDelay") (to 8 600) (in_1 4 600) free
row PreemptMinimumDuration = object 46 (codes "preemptMinimumDuration") (to 8 65535) (in_1 4 65535) free
row PreemptMaximumPresence = object 47 (codes "preemptMaximumPresence") (to 8 65535) (in_1 4 65535) free
row PreemptMinimumGreen = object 48 (codes "preemptMinimumGreen") (to 8 255) (in_1 4 255) free
row PreemptMinimumWalk = object 49 (codes "preemptMinimumWalk") (to 8 255) (in_1 4 255) free
row PreemptEnterPedClear = object 50 (codes "preemptEnterPedClear") (to 8 255) (in_1 4 255) free
row PreemptTrackGreen = object 51 (codes "preemptTrackGreen") (to 8 255) (in_1 4 255) free
row PreemptTrackPhase = object 52 (codes "preemptTrackPhase") (to 8 65535) (in_1 4 255) free
row PreemptDwellPhase = object 53 (codes "preemptDwellPhase") (to 8 65535) (in_1 4 255) free
row PreemptExitPhase = object 54 (codes "preemptExitPhase") (to 8 65535) (in_1 4 255) free
row UnitRedRevert = object 55 (codes "unitRedRevert") (to 1 255) (in_1 1 255) free
row UnitMax2 = object 56 (codes "unitMax2") (to 1 1) (in_1 1 1) free
row PhaseDynamicMaxLimit = object 57 (codes "phaseDynamicMaxLimit") (to 16 255) since_2 free
row PhaseDynamicMaxStep = object 58 (codes "phaseDynamicMaxStep") (to 16 255) since_2 free
row OverlapType = object 59 (codes "overlapType") (to 16 2) since_2 structural
row OverlapModifierPhases = object 60 (codes "overlapModifierPhases") (to 16 65535) since_2 structural
row CoordForceMode = object 61 (codes "coordForceMode") (to 1 2) since_2 free
row CoordMaximumMode = object 62 (codes "coordMaximumMode") (to 1 2) since_2 free
row PatternPermissiveTime = object 63 (codes "patternPermissiveTime") (to 16 255) since_2 free
row PatternLeadLag = object 64 (codes "patternLeadLag") (to 16 1) since_2 free
row PhasePedestrianRecycle = object 65 (codes "phasePedestrianRecycle") (to 16 1) since_2 free
row CoordCorrectionMode = object 66 (codes "coordCorrectionMode") (to 1 3) since_2 free
row CoordCorrectionLimit = object 67 (codes "coordCorrectionLimit") (to 1 50) since_2 free
row OverlapAcrossRings = object 68 (codes "overlapAcrossRings") (to 16 1) since_3 structural
row PreemptChoosesAnew = object 69 (codes "preemptChoosesAnew") (to 8 1) since_3 free
row CoordReference = object 70 (codes "coordReference") (to 1 5) since_3 free
row TimeBaseScheduleMonth = object 71 (codes "timeBaseScheduleMonth") (to 32 8190) since_3 free
row TimeBaseScheduleDay = object 72 (codes "timeBaseScheduleDay") (to 32 254) since_3 free
row TimeBaseScheduleDate = object 73 (codes "timeBaseScheduleDate") (to 64 65535) since_3 free
row TimeBaseScheduleDayPlan = object 74 (codes "timeBaseScheduleDayPlan") (to 32 16) since_3 free
row DayPlanHour = object 75 (codes "dayPlanHour") (to 256 23) since_3 free
row DayPlanMinute = object 76 (codes "dayPlanMinute") (to 256 59) since_3 free
row DayPlanActionNumber = object 77 (codes "dayPlanActionNumber") (to 256 32) since_3 free
row TimebaseAscPattern = object 78 (codes "timebaseAscPattern") (to 32 254) since_3 free
row OverlapArrowDelay = object 79 (codes "overlapArrowDelay") (to 16 255) since_3 free
row OverlapArrowPedestrian = object 80 (codes "overlapArrowPedestrian") (to 16 1) since_3 free
row OverlapTrailGreen = object 81 (codes "overlapTrailGreen") (to 16 255) since_3 structural
row OverlapTrailYellow = object 82 (codes "overlapTrailYellow") (to 16 255) since_3 free
row OverlapTrailRed = object 83 (codes "overlapTrailRed") (to 16 255) since_3 free
row ActionArrowOmit = object 84 (codes "actionArrowOmit") (to 32 65535) since_3 free
row ChannelControlSource = object 85 (codes "channelControlSource") (to 16 16) since_3 free
row ChannelControlType = object 86 (codes "channelControlType") (to 16 4) since_3 free

-- all objects, in the order of their places
unfoldable pub objects : List Object
objects = ALL

-- the object's place in that order, from 0
abbrev pub order : Object → ℕ
order o = (row o).place

-- how many indices the object has, from 1 on
abbrev pub indices : Object → ℕ
indices o = (row o).range.indices

-- the greatest value of the object; the least is 0
abbrev pub greatest : Object → ℕ
greatest o = (row o).range.greatest

-- the first version of plan texts that has an object
abbrev first_version : Since → Version
first_version (since_version_1 narrow) = One
first_version since_version_2 = Two
first_version since_version_3 = Three

-- and that has this one; later versions have it too
abbrev pub since : Object → Version
since o = first_version (row o).since

-- a commit that changes the object is refused while a phase is in service
abbrev pub is_structural : Object → Bool
is_structural o = (row o).is_structural

-- the place of the object's first among a plan's cells: after all cells of the objects before it
unfoldable pub first_cell : Object → ℕ
first_cell o = sum_by indices (take (order o) objects)

-- the object has this index: 1 to as many as it has indices
abbrev pub has_index : Object → ℕ → Bool
has_index o i = nat_le 1 i && nat_le i (indices o)

-- the value of an object at an index, among the cells of a plan; 0 at an index that it has not
abbrev pub value_in : List ℕ → Object → ℕ → ℕ
value_in cells o i = if has_index o i then slice_index cells (first_cell o + (i - 1)) else 0

-- each value is at most its object's greatest
pub record AreInRange (cells : List ℕ) : Type 0 where
  pub each : (o : Object) (i : ℕ) → value_in cells o i ≤ greatest o
