-- THE UNITS OF VALUES, as docs/use/MANUAL.md has them for each object.
use Rattle.std.specs.Prelude.{ℕ, List, [], codes}
use Rattle.tsb_plan.specs.declared.object.Object.{Object}
use Rattle.tsb_plan.specs.declared.object.Object.TheVariants.{OverlapArrowDelay, OverlapIncludedPhases, OverlapModifierPhases, OverlapTrailGreen, OverlapTrailRed, OverlapTrailYellow, PatternCycleTime, PatternOffsetTime, PatternPermissiveTime, PhaseAddedInitial, PhaseConcurrency, PhaseDynamicMaxLimit, PhaseDynamicMaxStep, PhaseMaximum1, PhaseMaximum2, PhaseMaximumInitial, PhaseMinimumGap, PhaseMinimumGreen, PhasePassage, PhasePedestrianClear, PhaseRedClear, PhaseRedRevert, PhaseTimeBeforeReduction, PhaseTimeToReduce, PhaseWalk, PhaseYellowChange, PreemptDelay, PreemptDwellPhase, PreemptEnterPedClear, PreemptExitPhase, PreemptMaximumPresence, PreemptMinimumDuration, PreemptMinimumGreen, PreemptMinimumWalk, PreemptTrackGreen, PreemptTrackPhase, SplitTime, UnitRedRevert, VehicleDetectorDelay, VehicleDetectorExtend, VehicleDetectorFailTime, VehicleDetectorMaxPresence, VehicleDetectorNoActivity}
use Rattle.tsb_plan_notes.specs.declared.units.Unit.{Unit}
use Rattle.tsb_plan_notes.specs.declared.units.Unit.TheVariants.{Minutes, Phases, Plain, Seconds, Tenths}

-- the unit of an object's values
abbrev pub unit_of : Object → Unit
unit_of PhaseWalk = Seconds
unit_of PhasePedestrianClear = Seconds
unit_of PhaseMinimumGreen = Seconds
unit_of PhaseMaximum1 = Seconds
unit_of PhaseMaximum2 = Seconds
unit_of PhaseMaximumInitial = Seconds
unit_of PhaseTimeBeforeReduction = Seconds
unit_of PhaseTimeToReduce = Seconds
unit_of PhasePassage = Tenths
unit_of PhaseYellowChange = Tenths
unit_of PhaseRedClear = Tenths
unit_of PhaseRedRevert = Tenths
unit_of PhaseAddedInitial = Tenths
unit_of PhaseMinimumGap = Tenths
unit_of VehicleDetectorDelay = Tenths
unit_of VehicleDetectorExtend = Tenths
unit_of VehicleDetectorNoActivity = Minutes
unit_of VehicleDetectorMaxPresence = Minutes
unit_of VehicleDetectorFailTime = Seconds
unit_of PatternCycleTime = Seconds
unit_of PatternOffsetTime = Seconds
unit_of SplitTime = Seconds
unit_of PreemptDelay = Seconds
unit_of PreemptMinimumDuration = Seconds
unit_of PreemptMaximumPresence = Seconds
unit_of PreemptMinimumGreen = Seconds
unit_of PreemptMinimumWalk = Seconds
unit_of PreemptEnterPedClear = Seconds
unit_of PreemptTrackGreen = Seconds
unit_of UnitRedRevert = Tenths
unit_of PhaseDynamicMaxLimit = Seconds
unit_of PhaseDynamicMaxStep = Tenths
unit_of PatternPermissiveTime = Seconds
unit_of OverlapArrowDelay = Tenths
unit_of OverlapTrailGreen = Seconds
unit_of OverlapTrailYellow = Tenths
unit_of OverlapTrailRed = Tenths
unit_of PhaseConcurrency = Phases
unit_of OverlapIncludedPhases = Phases
unit_of OverlapModifierPhases = Phases
unit_of PreemptTrackPhase = Phases
unit_of PreemptDwellPhase = Phases
unit_of PreemptExitPhase = Phases
unit_of o = Plain

-- what a line says of a unit
abbrev pub unit_text : Unit → List ℕ
unit_text Seconds = codes ": seconds"
unit_text Tenths = codes ": tenths of a second"
unit_text Minutes = codes ": minutes"
unit_text Phases = codes ": list of phases, a sum of 2^(phase-1)"
unit_text Plain = []
