-- Plans that give some objects the same values, and the objects that the tables of a checked plan are made from.
use Rattle.std.specs.Prelude.{◌≡◌, ℕ, ◌==◌, nat_le, nat_lt, Bool, true, ◌&&◌, ◌||◌}
use Rattle.tsb_plan.specs.declared.object.Object.{Object}
use Rattle.tsb_plan.specs.declared.object.Object.TheVariants.{PhaseEnabled, PhaseConcurrency, PhaseWalk, PhasePedestrianClear, PhaseYellowChange, PhaseRedRevert, VehicleDetectorCallPhase, VehicleDetectorDelay, VehicleDetectorErraticCounts, PedestrianDetectorCallPhase, OverlapIncludedPhases, PatternCycleTime, PreemptDelay, CoordForceMode, CoordCorrectionMode, CoordReference}
use Rattle.tsb_plan.specs.Objects.{order}
use Rattle.tsb_plan.specs.Plan.{Plan}

-- both plans give each object that passes the test the same values
pub record Agree (test : Object → Bool) (plan other : Plan) : Type 0 where
  pub each : (o : Object) (i : ℕ) → test o ≡ true → plan.value o i ≡ other.value o i

-- in the table of objects o stands at the one object or behind it, and before the other one
abbrev pub is_between : Object → Object → Object → Bool
is_between from to o = nat_le (order from) (order o) && nat_lt (order o) (order to)

-- o is the one object
abbrev pub is_one : Object → Object → Bool
is_one one o = order one == order o

-- what the tables of phases are made from
abbrev pub is_for_phases : Object → Bool
is_for_phases o = is_between PhaseEnabled PhasePedestrianClear o

-- what the tables of detectors are made from
abbrev pub is_for_detectors : Object → Bool
is_for_detectors o = is_between VehicleDetectorDelay VehicleDetectorErraticCounts o

-- what the tables of patterns are made from: enabled phases, recalls, rings and sides; clearances; patterns, splits and
-- sequences; and the options of coordination
abbrev pub is_for_patterns : Object → Bool
is_for_patterns o =
    is_between PhaseEnabled PhaseConcurrency o ||
    (is_between PhaseYellowChange PhaseRedRevert o ||
    (is_between PatternCycleTime PreemptDelay o || (is_between CoordForceMode CoordCorrectionMode o || is_one CoordReference o)))

-- what the unions are made from
abbrev pub is_for_unions : Object → Bool
is_for_unions o =
    is_between PhaseConcurrency PhaseWalk o ||
    (is_between VehicleDetectorCallPhase VehicleDetectorDelay o || is_between PedestrianDetectorCallPhase OverlapIncludedPhases o)
