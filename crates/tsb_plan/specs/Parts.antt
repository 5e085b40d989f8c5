-- What a plan says of detectors, overlaps, patterns, splits and preempts, each named by its number from 1. Times are in
-- tenths of a second. Names are those of NTCIP 1202; the numbers of split modes, overlap types and force modes are the
-- profile's own. So are permissive time, lead and lag, overlaps across rings, arrows with their delay and crosswalks,
-- preempts that choose anew, and what offsets are counted to.
use Rattle.std.specs.Prelude.{ℕ, ◌+◌, ◌-◌, ◌*◌, ◌==◌, Bool, false, not, ◌&&◌, ◌||◌, if◌then◌else◌, Option, Some, None}
use Rattle.tsb_plan.specs.declared.object.Object.TheVariants.{VehicleDetectorCallPhase, VehicleDetectorDelay, VehicleDetectorExtend, VehicleDetectorNoActivity, VehicleDetectorMaxPresence, VehicleDetectorErraticCounts, VehicleDetectorFailTime, PedestrianDetectorCallPhase, OverlapIncludedPhases, PatternCycleTime, PatternOffsetTime, PatternSplitNumber, PatternSequenceNumber, SplitTime, SplitMode as SplitModeObject, SplitCoordPhase, PreemptDelay, PreemptMinimumDuration, PreemptMaximumPresence, PreemptMinimumGreen, PreemptMinimumWalk, PreemptEnterPedClear, PreemptTrackGreen, PreemptTrackPhase, PreemptDwellPhase, PreemptExitPhase, OverlapType, OverlapModifierPhases, CoordForceMode, PatternPermissiveTime, PatternLeadLag, CoordCorrectionMode, CoordCorrectionLimit, OverlapAcrossRings, PreemptChoosesAnew, CoordReference, OverlapArrowDelay, OverlapArrowPedestrian, OverlapTrailGreen, OverlapTrailYellow, OverlapTrailRed}
use Rattle.tsb_plan.specs.declared.plan.patterns.CorrectionMode.{CorrectionMode}
use Rattle.tsb_plan.specs.declared.plan.patterns.CorrectionMode.TheVariants.{AtOnce, Dwell, ShortWay, AddOnly}
use Rattle.tsb_plan.specs.declared.plan.patterns.OffsetReference.{OffsetReference}
use Rattle.tsb_plan.specs.declared.plan.patterns.OffsetReference.TheVariants.{SplitEnd, FirstGreen, LastGreen, FirstYellow, LastYellow, FirstRed}
use Rattle.tsb_plan.specs.declared.plan.patterns.SplitMode.{SplitMode}
use Rattle.tsb_plan.specs.declared.plan.patterns.SplitMode.TheVariants.{NoMode, MinimumRecall, MaximumRecall, PedestrianRecall, MaximumAndPedestrianRecall, Omitted}
use Rattle.tsb_plan.specs.Plan.{Plan}
use Rattle.tsb_types.specs.Sets.{names}

-- a number, with 0 for none
abbrev pub unless_zero : ℕ → Option ℕ
unless_zero n = if n == 0 then None else Some n

-- vehicle detectors

-- the phase that the detector calls
abbrev pub call_phase : Plan → ℕ → Option ℕ
call_phase plan d = unless_zero (plan.value VehicleDetectorCallPhase d)

-- how long the input has to be on before the output is, in tenths of a second; a green has no delay
abbrev pub detector_delay : Plan → ℕ → ℕ
detector_delay plan d = plan.value VehicleDetectorDelay d

-- how long the output stays on in a green after the input fell, in tenths of a second
abbrev pub detector_extend : Plan → ℕ → ℕ
detector_extend plan d = plan.value VehicleDetectorExtend d

-- how long the input may stay off before the alarm of no activity, in tenths of a second (its object is in minutes); 0
-- for any time
abbrev pub no_activity : Plan → ℕ → ℕ
no_activity plan d = 600 * plan.value VehicleDetectorNoActivity d

-- how long the input may stay on before the alarm of maximum presence, in tenths of a second (its object is in
-- minutes); 0 for any time
abbrev pub maximum_presence : Plan → ℕ → ℕ
maximum_presence plan d = 600 * plan.value VehicleDetectorMaxPresence d

-- how many times the input may rise in a minute before the alarm of erratic counts; 0 for any number
abbrev pub erratic_counts : Plan → ℕ → ℕ
erratic_counts plan d = plan.value VehicleDetectorErraticCounts d

-- while there is an alarm, the output is on until a green has lasted this time, in tenths of a second; with 0 it is
-- off, with 2550 on all the time (profile)
abbrev pub fail_time : Plan → ℕ → ℕ
fail_time plan d = 10 * plan.value VehicleDetectorFailTime d

-- the phase whose walk the pedestrian detector calls
abbrev pub pedestrian_call_phase : Plan → ℕ → Option ℕ
pedestrian_call_phase plan d = unless_zero (plan.value PedestrianDetectorCallPhase d)

-- overlaps

-- phase p is an included phase of overlap o: o is green with it, and on through its clearance to a next included phase
abbrev pub is_included : Plan → ℕ → ℕ → Bool
is_included plan o p = names (plan.value OverlapIncludedPhases o) p

-- phase p is a modifier phase of overlap o: it takes away the green of a minusGreenYellow overlap while p is Green, and
-- its yellow while p is Yellow; of an arrow it is the protected turn
abbrev pub is_modifier : Plan → ℕ → ℕ → Bool
is_modifier plan o p = names (plan.value OverlapModifierPhases o) p

-- the overlap is of type 1, minusGreenYellow; type 0 is normal, and heeds no modifier phases
abbrev pub is_minus_green_yellow : Plan → ℕ → Bool
is_minus_green_yellow plan o = plan.value OverlapType o == 1

-- the overlap is green, too, through the clearance of an included phase to one of the other ring
abbrev pub overlaps_across_rings : Plan → ℕ → Bool
overlaps_across_rings plan o = plan.value OverlapAcrossRings o == 1

-- the overlap includes no phase, so it has no head
abbrev pub includes_none : Plan → ℕ → Bool
includes_none plan o = plan.value OverlapIncludedPhases o == 0

-- the overlap is of type 2, a flashing yellow arrow: its included phases are those that oppose the turn, and its modifier
-- phase, one by K28, is the protected turn
abbrev pub is_arrow : Plan → ℕ → Bool
is_arrow plan o = plan.value OverlapType o == 2 && not (includes_none plan o)

-- so long has the green of an included phase lasted before an arrow begins to flash, in tenths of a second
abbrev pub arrow_delay : Plan → ℕ → ℕ
arrow_delay plan o = plan.value OverlapArrowDelay o

-- an arrow does not flash while the crosswalk of an included phase shows walk or clearance
abbrev pub heeds_pedestrians : Plan → ℕ → Bool
heeds_pedestrians plan o = plan.value OverlapArrowPedestrian o == 1

-- the overlap trails: it stays green after its phases, then has a yellow and a red clearance of its own
abbrev pub trails : Plan → ℕ → Bool
trails plan o = not (plan.value OverlapTrailGreen o == 0) && not (includes_none plan o)

-- how long it stays green after its phases, in tenths of a second
abbrev pub trail_green : Plan → ℕ → ℕ
trail_green plan o = 10 * plan.value OverlapTrailGreen o

-- how long its own yellow lasts after that, in tenths of a second; K29: 0, or at least 30
abbrev pub trail_yellow : Plan → ℕ → ℕ
trail_yellow plan o = plan.value OverlapTrailYellow o

-- and then its own red clearance, in tenths of a second; 0 for no red clearance
abbrev pub trail_red : Plan → ℕ → ℕ
trail_red plan o = plan.value OverlapTrailRed o

-- the overlap has intervals of its own; of all others heads are functions of phases
abbrev pub is_timed : Plan → ℕ → Bool
is_timed plan o = is_arrow plan o || trails plan o

-- patterns

-- late force-off in all patterns, modes 1 and 2: a phase that is not coordinated is forced off from its instant up to
-- that of a coordinated phase, and otherwise at its instant alone
abbrev pub forces_late : Plan → Bool
forces_late plan = not (plan.value CoordForceMode 1 == 0)

-- floating force-off in all patterns, mode 2: such a phase is besides forced off once its green has lasted its split
abbrev pub floats : Plan → Bool
floats plan = plan.value CoordForceMode 1 == 2

-- by how much of it a cycle is made longer or shorter at most while the local counter comes into step, in percent
abbrev pub correction_limit : Plan → ℕ
correction_limit plan = plan.value CoordCorrectionLimit 1

-- what each number of coordCorrectionMode means (profile), with this limit: 0 for at once; without a limit the short
-- way and add only are at once as well
abbrev pub correction_mode_of : ℕ → ℕ → CorrectionMode
correction_mode_of limit n =
    if n == 1 then Dwell
    else (if limit == 0 then AtOnce else (if n == 2 then ShortWay else (if n == 3 then AddOnly else AtOnce)))

-- how the local counter comes into step once a pattern is selected while another ran
abbrev pub correction_mode : Plan → CorrectionMode
correction_mode plan = correction_mode_of (correction_limit plan) (plan.value CoordCorrectionMode 1)

-- what each number of coordReference means (profile): 0, and any over 5, for the end of the coordinated split
abbrev pub offset_reference_of : ℕ → OffsetReference
offset_reference_of n =
    if n == 1 then FirstGreen
    else (if n == 2 then LastGreen
    else (if n == 3 then FirstYellow else (if n == 4 then LastYellow else (if n == 5 then FirstRed else SplitEnd))))

-- what the offsets of all patterns are counted to
abbrev pub offset_reference : Plan → OffsetReference
offset_reference plan = offset_reference_of (plan.value CoordReference 1)

-- the cycle length of the pattern, in tenths of a second; 0 for a pattern that is not used
abbrev pub cycle : Plan → ℕ → ℕ
cycle plan n = 10 * plan.value PatternCycleTime n

-- the pattern has a cycle: only then may it run, and rules K17 to K20 and K23 ask something of it
abbrev pub is_used : Plan → ℕ → Bool
is_used plan n = not (plan.value PatternCycleTime n == 0)

-- how long after tick 0 what offsets are counted to first comes in the pattern, in tenths of a second; where that is the
-- end of the coordinated split the local counter is then 0. K17: below the cycle
abbrev pub offset : Plan → ℕ → ℕ
offset plan n = 10 * plan.value PatternOffsetTime n

-- for so long behind their instants the coordinated phases of the pattern are forced off, in tenths of a second; with 0
-- at their instants alone. K23: below the cycle
abbrev pub permissive_time : Plan → ℕ → ℕ
permissive_time plan n = 10 * plan.value PatternPermissiveTime n

-- the splits of the coordinated phases of the pattern may end at different times, as where one direction of a street
-- has its left turn before and the other one after
abbrev pub leads_and_lags : Plan → ℕ → Bool
leads_and_lags plan n = plan.value PatternLeadLag n == 1

-- the split table of the pattern
abbrev pub split_of : Plan → ℕ → Option ℕ
split_of plan n = unless_zero (plan.value PatternSplitNumber n)

-- the sequence of the pattern
abbrev pub sequence_of : Plan → ℕ → Option ℕ
sequence_of plan n = unless_zero (plan.value PatternSequenceNumber n)

-- split tables

-- the index of split objects for phase p in table t: table after table, each in phase order
abbrev pub split_index : Plan → ℕ → ℕ → ℕ
split_index plan t p = plan.phase_count * (t - 1) + p

-- the part of the cycle that table t gives phase p, yellow change and red clearance with it, in tenths of a second
abbrev pub split_time : Plan → ℕ → ℕ → ℕ
split_time plan t p = 10 * plan.value SplitTime (split_index plan t p)

-- what each number of splitMode means (profile); 0, and any over 5, is no mode
abbrev pub mode_of : ℕ → SplitMode
mode_of n =
    if n == 1 then MinimumRecall else if n == 2 then MaximumRecall else if n == 3 then PedestrianRecall else
    if n == 4 then MaximumAndPedestrianRecall else if n == 5 then Omitted else NoMode

-- what table t asks of phase p besides its time: a recall, or to omit it
abbrev pub split_mode : Plan → ℕ → ℕ → SplitMode
split_mode plan t p = mode_of (plan.value SplitModeObject (split_index plan t p))

-- table t omits phase p: split mode 5
abbrev pub is_omitted : Plan → ℕ → ℕ → Bool
is_omitted plan t p = plan.value SplitModeObject (split_index plan t p) == 5

-- phase p is a coordinated phase of table t: where its split ends, the local counter is 0
abbrev pub is_coordinated : Plan → ℕ → ℕ → Bool
is_coordinated plan t p = plan.value SplitCoordPhase (split_index plan t p) == 1

-- preempts

-- how long the input is on before the preempt requests service, in tenths of a second
abbrev pub preempt_delay : Plan → ℕ → ℕ
preempt_delay plan n = 10 * plan.value PreemptDelay n

-- how long the preempt is in service before an input that is off ends dwell, in tenths of a second
abbrev pub minimum_duration : Plan → ℕ → ℕ
minimum_duration plan n = 10 * plan.value PreemptMinimumDuration n

-- how long the preempt is in service before dwell ends even with the input on, in tenths of a second; 0 for any time
abbrev pub preempt_maximum_presence : Plan → ℕ → ℕ
preempt_maximum_presence plan n = 10 * plan.value PreemptMaximumPresence n

-- the green left to a phase that the preempt ends, in tenths of a second, where its initial time is longer
abbrev pub preempt_minimum_green : Plan → ℕ → ℕ
preempt_minimum_green plan n = 10 * plan.value PreemptMinimumGreen n

-- the walk left to such a phase, in tenths of a second, where its own is longer
abbrev pub preempt_minimum_walk : Plan → ℕ → ℕ
preempt_minimum_walk plan n = 10 * plan.value PreemptMinimumWalk n

-- the pedestrian clearance left to such a phase, in tenths of a second, where its own is longer
abbrev pub enter_pedestrian_clear : Plan → ℕ → ℕ
enter_pedestrian_clear plan n = 10 * plan.value PreemptEnterPedClear n

-- how long track green goes on once all track phases were green, in tenths of a second
abbrev pub track_green : Plan → ℕ → ℕ
track_green plan n = 10 * plan.value PreemptTrackGreen n

-- while preempt n is in service, a ring gives up its commitment to a phase that the preempt does not want
abbrev pub chooses_anew : Plan → ℕ → Bool
chooses_anew plan n = plan.value PreemptChoosesAnew n == 1

-- the preempt in service does so, if there is one
abbrev pub is_anew : Plan → Option ℕ → Bool
is_anew plan None = false
is_anew plan (Some n) = chooses_anew plan n

-- phase p clears the track when preempt n enters; with no such phase service begins with dwell
abbrev pub is_track_phase : Plan → ℕ → ℕ → Bool
is_track_phase plan n p = names (plan.value PreemptTrackPhase n) p

-- phase p is served while preempt n dwells; with no such phase the preempt never requests service
abbrev pub is_dwell_phase : Plan → ℕ → ℕ → Bool
is_dwell_phase plan n p = names (plan.value PreemptDwellPhase n) p

-- phase p is served as preempt n leaves; with no such phase service ends with dwell
abbrev pub is_exit_phase : Plan → ℕ → ℕ → Bool
is_exit_phase plan n p = names (plan.value PreemptExitPhase n) p
