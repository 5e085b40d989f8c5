-- The built-in plan of eight phases: two rings with phases 1 to 4 and 5 to 8, two sides, two patterns, two preempts,
-- one overlap, a detector for each phase.
use Rattle.std.specs.Prelude.{ℕ, ◌+◌, Bool, List, [], ◌∷◌}
use Rattle.std.specs.List.{list_all}
use Rattle.tsb_plan.specs.declared.object.Object.{Object}
use Rattle.tsb_plan.specs.declared.object.Object.TheVariants.{PhaseEnabled, PhaseMinRecall, PhaseDualEntry, PhaseRing, PhaseSide, PhaseConcurrency, PhaseWalk, PhasePedestrianClear, PhaseMinimumGreen, PhaseMaximum1, PhaseMaximum2, PhasePassage, PhaseYellowChange, PhaseRedClear, PhaseMinimumGap, VehicleDetectorCallPhase, PedestrianDetectorCallPhase, OverlapIncludedPhases, PatternCycleTime, PatternOffsetTime, PatternSplitNumber, PatternSequenceNumber, SplitTime, SplitCoordPhase, SequenceData, PreemptMinimumDuration, PreemptMinimumGreen, PreemptMinimumWalk, PreemptEnterPedClear, PreemptDwellPhase, UnitRedRevert}
use Rattle.tsb_plan.specs.Plan.{Plan, empty, with_values}
use Rattle.tsb_plan.specs.Two.{fits}

-- the values of an object, from an index on
abbrev pub row : Object → ℕ → List ℕ → List (Object × ℕ × ℕ)
row o i [] = []
row o i (v ∷ vs) = (o, i, v) ∷ row o (i + 1) vs

-- the plan with values of objects, each from index 1 on
abbrev pub with_rows : Plan → List (Object × List ℕ) → Plan
with_rows plan [] = plan
with_rows plan (e ∷ es) = with_rows (with_values plan (row e.0 1 e.1)) es

-- the object has an index for each of these values, and takes each
abbrev pub row_fits : Object × List ℕ → Bool
row_fits e = list_all fits (row e.0 1 e.1)

-- what is given of phases, detectors, splits and places 1 to 8
abbrev pub quad_rows : List (Object × List ℕ)
quad_rows =
    (PhaseEnabled, 1 ∷ 1 ∷ 1 ∷ 1 ∷ 1 ∷ 1 ∷ 1 ∷ 1 ∷ []) ∷
    (PhaseRing, 1 ∷ 1 ∷ 1 ∷ 1 ∷ 2 ∷ 2 ∷ 2 ∷ 2 ∷ []) ∷
    (PhaseSide, 1 ∷ 1 ∷ 2 ∷ 2 ∷ 1 ∷ 1 ∷ 2 ∷ 2 ∷ []) ∷
    (PhaseConcurrency, 48 ∷ 48 ∷ 192 ∷ 192 ∷ 3 ∷ 3 ∷ 12 ∷ 12 ∷ []) ∷
    (PhaseMinimumGreen, 5 ∷ 5 ∷ 5 ∷ 5 ∷ 5 ∷ 5 ∷ 5 ∷ 5 ∷ []) ∷
    (PhaseMaximum1, 20 ∷ 20 ∷ 20 ∷ 20 ∷ 20 ∷ 20 ∷ 20 ∷ 20 ∷ []) ∷
    (PhaseMaximum2, 20 ∷ 20 ∷ 20 ∷ 20 ∷ 20 ∷ 20 ∷ 20 ∷ 20 ∷ []) ∷
    (PhasePassage, 20 ∷ 20 ∷ 20 ∷ 20 ∷ 20 ∷ 20 ∷ 20 ∷ 20 ∷ []) ∷
    (PhaseMinimumGap, 20 ∷ 20 ∷ 20 ∷ 20 ∷ 20 ∷ 20 ∷ 20 ∷ 20 ∷ []) ∷
    (PhaseYellowChange, 30 ∷ 30 ∷ 30 ∷ 30 ∷ 30 ∷ 30 ∷ 30 ∷ 30 ∷ []) ∷
    (PhaseRedClear, 10 ∷ 10 ∷ 10 ∷ 10 ∷ 10 ∷ 10 ∷ 10 ∷ 10 ∷ []) ∷
    (PhaseWalk, 0 ∷ 4 ∷ 0 ∷ 0 ∷ 0 ∷ 0 ∷ 0 ∷ 0 ∷ []) ∷
    (PhasePedestrianClear, 0 ∷ 6 ∷ 0 ∷ 0 ∷ 0 ∷ 0 ∷ 0 ∷ 0 ∷ []) ∷
    (PhaseMinRecall, 0 ∷ 1 ∷ 0 ∷ 0 ∷ 0 ∷ 1 ∷ 0 ∷ 0 ∷ []) ∷
    (PhaseDualEntry, 0 ∷ 1 ∷ 0 ∷ 1 ∷ 0 ∷ 1 ∷ 0 ∷ 1 ∷ []) ∷
    (VehicleDetectorCallPhase, 1 ∷ 2 ∷ 3 ∷ 4 ∷ 5 ∷ 6 ∷ 7 ∷ 8 ∷ []) ∷
    (PedestrianDetectorCallPhase, 0 ∷ 2 ∷ 0 ∷ 0 ∷ 0 ∷ 0 ∷ 0 ∷ 0 ∷ []) ∷
    (SplitTime, 15 ∷ 25 ∷ 15 ∷ 25 ∷ 15 ∷ 25 ∷ 15 ∷ 25 ∷ []) ∷
    (SplitCoordPhase, 0 ∷ 1 ∷ 0 ∷ 0 ∷ 0 ∷ 1 ∷ 0 ∷ 0 ∷ []) ∷
    (SequenceData, 1 ∷ 2 ∷ 3 ∷ 4 ∷ 0 ∷ 0 ∷ 0 ∷ 0 ∷ []) ∷ []

-- the places of ring 2, the overlap, the patterns and the preempts
abbrev pub quad_values : List (Object × ℕ × ℕ)
quad_values =
    (SequenceData, 17, 5) ∷ (SequenceData, 18, 6) ∷ (SequenceData, 19, 7) ∷ (SequenceData, 20, 8) ∷
    (OverlapIncludedPhases, 1, 3) ∷
    (UnitRedRevert, 1, 20) ∷
    (PatternCycleTime, 1, 80) ∷ (PatternSplitNumber, 1, 1) ∷ (PatternSequenceNumber, 1, 1) ∷
    (PatternCycleTime, 2, 80) ∷ (PatternOffsetTime, 2, 79) ∷ (PatternSplitNumber, 2, 1) ∷ (PatternSequenceNumber, 2, 1) ∷
    (PreemptDwellPhase, 1, 132) ∷ (PreemptMinimumGreen, 1, 2) ∷ (PreemptMinimumWalk, 1, 2) ∷ (PreemptEnterPedClear, 1, 3) ∷
    (PreemptMinimumDuration, 1, 10) ∷
    (PreemptDwellPhase, 2, 72) ∷ (PreemptMinimumGreen, 2, 2) ∷ (PreemptMinimumWalk, 2, 2) ∷ (PreemptEnterPedClear, 2, 3) ∷ []

-- the plan of zeros with these rows and values put in
unfoldable pub quad : Plan
quad = with_values (with_rows empty quad_rows) quad_values
