-- The places for which advices are given and at which rules can be broken, each named by its numbers.
use Rattle.std.specs.Prelude.{ℕ, List, map, flat_map}
use Rattle.tsb_types.specs.declared.limits.TheConstants.{VEHICLE_DETECTORS, PEDESTRIAN_DETECTORS, OVERLAPS, PREEMPTS}
use Rattle.tsb_types.specs.Lists.{run_from}
use Rattle.tsb_review.specs.declared.place.Place.{Place}
use Rattle.tsb_review.specs.declared.place.Place.TheVariants as at
use Rattle.tsb_review.specs.declared.place.Shape.{Shape}
use Rattle.tsb_review.specs.declared.place.Shape.TheVariants as shapes

-- how many there are by their first number: one unit, 16 phases and patterns, 4 sequences, 2 rings, 32 entries and actions
-- of the schedule, 16 day plans, and all detectors, overlaps and preempts
abbrev pub firsts : Shape → ℕ
firsts shapes.Unit = 1
firsts shapes.Phase = 16
firsts shapes.Phases = 16
firsts shapes.Ring = 2
firsts shapes.RingSide = 2
firsts shapes.Listing = 4
firsts shapes.SequencePhase = 4
firsts shapes.Detector = VEHICLE_DETECTORS
firsts shapes.PedestrianDetector = PEDESTRIAN_DETECTORS
firsts shapes.Overlap = OVERLAPS
firsts shapes.OverlapPhase = OVERLAPS
firsts shapes.Preempt = PREEMPTS
firsts shapes.PreemptPhase = PREEMPTS
firsts shapes.PreemptPhases = PREEMPTS
firsts shapes.Pattern = 16
firsts shapes.PatternPhase = 16
firsts shapes.PatternPhases = 16
firsts shapes.PatternSide = 16
firsts shapes.PatternRing = 16
firsts shapes.Entry = 32
firsts shapes.DayEvent = 16
firsts shapes.DayEvents = 16
firsts shapes.Action = 32

-- by their second: 2 rings, 4 sides, 16 phases or events, and else one
abbrev pub seconds : Shape → ℕ
seconds shapes.Unit = 1
seconds shapes.Phase = 1
seconds shapes.Phases = 16
seconds shapes.Ring = 1
seconds shapes.RingSide = 4
seconds shapes.Listing = 2
seconds shapes.SequencePhase = 2
seconds shapes.Detector = 1
seconds shapes.PedestrianDetector = 1
seconds shapes.Overlap = 1
seconds shapes.OverlapPhase = 16
seconds shapes.Preempt = 1
seconds shapes.PreemptPhase = 16
seconds shapes.PreemptPhases = 16
seconds shapes.Pattern = 1
seconds shapes.PatternPhase = 16
seconds shapes.PatternPhases = 16
seconds shapes.PatternSide = 4
seconds shapes.PatternRing = 2
seconds shapes.Entry = 1
seconds shapes.DayEvent = 16
seconds shapes.DayEvents = 16
seconds shapes.Action = 1

-- and by their third: 16 places of a sequence, phases or events, and else one
abbrev pub thirds : Shape → ℕ
thirds shapes.Unit = 1
thirds shapes.Phase = 1
thirds shapes.Phases = 1
thirds shapes.Ring = 1
thirds shapes.RingSide = 1
thirds shapes.Listing = 16
thirds shapes.SequencePhase = 16
thirds shapes.Detector = 1
thirds shapes.PedestrianDetector = 1
thirds shapes.Overlap = 1
thirds shapes.OverlapPhase = 1
thirds shapes.Preempt = 1
thirds shapes.PreemptPhase = 1
thirds shapes.PreemptPhases = 16
thirds shapes.Pattern = 1
thirds shapes.PatternPhase = 1
thirds shapes.PatternPhases = 16
thirds shapes.PatternSide = 1
thirds shapes.PatternRing = 1
thirds shapes.Entry = 1
thirds shapes.DayEvent = 1
thirds shapes.DayEvents = 16
thirds shapes.Action = 1

-- the place of a kind that has these three numbers; those that it does not have do not count
abbrev pub place_of : Shape → ℕ → ℕ → ℕ → Place
place_of shapes.Unit i j k = at.Unit
place_of shapes.Phase i j k = at.Phase i
place_of shapes.Phases i j k = at.Phases i j
place_of shapes.Ring i j k = at.Ring i
place_of shapes.RingSide i j k = at.RingSide i j
place_of shapes.Listing i j k = at.Listing i j k
place_of shapes.SequencePhase i j k = at.SequencePhase i j k
place_of shapes.Detector i j k = at.Detector i
place_of shapes.PedestrianDetector i j k = at.PedestrianDetector i
place_of shapes.Overlap i j k = at.Overlap i
place_of shapes.OverlapPhase i j k = at.OverlapPhase i j
place_of shapes.Preempt i j k = at.Preempt i
place_of shapes.PreemptPhase i j k = at.PreemptPhase i j
place_of shapes.PreemptPhases i j k = at.PreemptPhases i j k
place_of shapes.Pattern i j k = at.Pattern i
place_of shapes.PatternPhase i j k = at.PatternPhase i j
place_of shapes.PatternPhases i j k = at.PatternPhases i j k
place_of shapes.PatternSide i j k = at.PatternSide i j
place_of shapes.PatternRing i j k = at.PatternRing i j
place_of shapes.Entry i j k = at.Entry i
place_of shapes.DayEvent i j k = at.DayEvent i j
place_of shapes.DayEvents i j k = at.DayEvents i j k
place_of shapes.Action i j k = at.Action i

-- those of a kind that have these first two numbers, by their third
unfoldable pub places_beside : Shape → ℕ → ℕ → List Place
places_beside shape i j = map (place_of shape i j) (run_from 1 (thirds shape))

-- those that have this first number, by their second and then by their third
unfoldable pub places_from : Shape → ℕ → List Place
places_from shape i = flat_map (places_beside shape i) (run_from 1 (seconds shape))

-- all places of a kind, by their first number, then by their second, and then by their third
unfoldable pub places : Shape → List Place
places shape = flat_map (places_from shape) (run_from 1 (firsts shape))
