-- That a way to break a rule is at no place, by the numbers of its places.
use Rattle.std.proofs.Common.{◌≡◌, ◌∙◌, ℕ, Bool, not, refl}
use Rattle.std.specs.List.{list_all}
use Rattle.tsb_plan.specs.Plan.{Plan}
use Rattle.tsb_types.specs.declared.limits.TheConstants.{OVERLAPS, PEDESTRIAN_DETECTORS, PREEMPTS, VEHICLE_DETECTORS}
use Rattle.tsb_types.specs.Lists.{run_from}
use Rattle.tsb_breaches.specs.declared.fault.RuleFault.{RuleFault}
use Rattle.tsb_review.specs.declared.place.Shape.{Shape}
use Rattle.tsb_review.specs.declared.place.Shape.TheVariants as shapes
use Rattle.tsb_breaches.specs.Breaches.{is_at, shape, of_phase, of_phases, of_listing, of_sequence_phase, of_pedestrian_detector, of_overlap, of_overlap_phase, of_preempt, of_preempt_phase, of_preempt_phases, of_pattern, of_pattern_phase, of_pattern_phases, of_pattern_side, of_pattern_ring, of_action}
use Rattle.tsb_breaches.specs.Lists.{calls_unused}
use Rattle.tsb_breaches.specs.Phases.{has_no_phase}
use Rattle.tsb_breaches.specs.Schedules.{come_together, names_undefined, runs_nothing}
use Rattle.tsb_review.specs.Places.{places}
use Rattle.tsb_breaches.proofs.AllLemmas.{all-one, all-pairs, all-places, all-singles}

-- f is at none of the places of a kind
abbrev pub none_of : Plan → RuleFault → Shape → Bool
none_of plan f s = list_all (λ place. not (is_at plan f place)) (places s)

-- it is at no place
abbrev pub none_at : Plan → RuleFault → Bool
none_at plan f = none_of plan f (shape f)

-- no number up to n
abbrev pub none_up_to : ℕ → (ℕ → Bool) → Bool
none_up_to n test = list_all (λ i. not (test i)) (run_from 1 n)

pub none-unit : (plan : Plan) (f : RuleFault) → none_of plan f shapes.Unit ≡ not (has_no_phase plan)
none-unit plan f = all-singles shapes.Unit (λ place. not (is_at plan f place)) refl refl ∙ all-one (λ i. not (has_no_phase plan))

pub none-phase : (plan : Plan) (f : RuleFault) → none_of plan f shapes.Phase ≡ none_up_to 16 (of_phase plan f)
none-phase plan f = all-singles shapes.Phase (λ place. not (is_at plan f place)) refl refl

pub none-phases : (plan : Plan) (f : RuleFault) → none_of plan f shapes.Phases ≡ list_all (λ p. none_up_to 16 (of_phases plan f p)) (run_from 1 16)
none-phases plan f = all-pairs shapes.Phases (λ place. not (is_at plan f place)) refl

pub none-listing : (plan : Plan) (f : RuleFault) →
    none_of plan f shapes.Listing ≡ list_all (λ s. list_all (λ r. none_up_to 16 (of_listing plan f s r)) (run_from 1 2)) (run_from 1 4)
none-listing plan f = all-places shapes.Listing (λ place. not (is_at plan f place))

pub none-sequence_phase : (plan : Plan) (f : RuleFault) →
    none_of plan f shapes.SequencePhase ≡ list_all (λ s. list_all (λ r. none_up_to 16 (of_sequence_phase plan f s r)) (run_from 1 2)) (run_from 1 4)
none-sequence_phase plan f = all-places shapes.SequencePhase (λ place. not (is_at plan f place))

pub none-detector : (plan : Plan) (f : RuleFault) → none_of plan f shapes.Detector ≡ none_up_to VEHICLE_DETECTORS (calls_unused plan)
none-detector plan f = all-singles shapes.Detector (λ place. not (is_at plan f place)) refl refl

pub none-pedestrian_detector : (plan : Plan) (f : RuleFault) → none_of plan f shapes.PedestrianDetector ≡ none_up_to PEDESTRIAN_DETECTORS (of_pedestrian_detector plan f)
none-pedestrian_detector plan f = all-singles shapes.PedestrianDetector (λ place. not (is_at plan f place)) refl refl

pub none-overlap : (plan : Plan) (f : RuleFault) → none_of plan f shapes.Overlap ≡ none_up_to OVERLAPS (of_overlap plan f)
none-overlap plan f = all-singles shapes.Overlap (λ place. not (is_at plan f place)) refl refl

pub none-overlap_phase : (plan : Plan) (f : RuleFault) → none_of plan f shapes.OverlapPhase ≡ list_all (λ o. none_up_to 16 (of_overlap_phase plan f o)) (run_from 1 OVERLAPS)
none-overlap_phase plan f = all-pairs shapes.OverlapPhase (λ place. not (is_at plan f place)) refl

pub none-preempt : (plan : Plan) (f : RuleFault) → none_of plan f shapes.Preempt ≡ none_up_to PREEMPTS (of_preempt plan f)
none-preempt plan f = all-singles shapes.Preempt (λ place. not (is_at plan f place)) refl refl

pub none-preempt_phase : (plan : Plan) (f : RuleFault) → none_of plan f shapes.PreemptPhase ≡ list_all (λ m. none_up_to 16 (of_preempt_phase plan f m)) (run_from 1 PREEMPTS)
none-preempt_phase plan f = all-pairs shapes.PreemptPhase (λ place. not (is_at plan f place)) refl

pub none-preempt_phases : (plan : Plan) (f : RuleFault) →
    none_of plan f shapes.PreemptPhases ≡ list_all (λ m. list_all (λ p. none_up_to 16 (of_preempt_phases plan f m p)) (run_from 1 16)) (run_from 1 PREEMPTS)
none-preempt_phases plan f = all-places shapes.PreemptPhases (λ place. not (is_at plan f place))

pub none-pattern : (plan : Plan) (f : RuleFault) → none_of plan f shapes.Pattern ≡ none_up_to 16 (of_pattern plan f)
none-pattern plan f = all-singles shapes.Pattern (λ place. not (is_at plan f place)) refl refl

pub none-pattern_phase : (plan : Plan) (f : RuleFault) → none_of plan f shapes.PatternPhase ≡ list_all (λ n. none_up_to 16 (of_pattern_phase plan f n)) (run_from 1 16)
none-pattern_phase plan f = all-pairs shapes.PatternPhase (λ place. not (is_at plan f place)) refl

pub none-pattern_phases : (plan : Plan) (f : RuleFault) →
    none_of plan f shapes.PatternPhases ≡ list_all (λ n. list_all (λ p. none_up_to 16 (of_pattern_phases plan f n p)) (run_from 1 16)) (run_from 1 16)
none-pattern_phases plan f = all-places shapes.PatternPhases (λ place. not (is_at plan f place))

pub none-pattern_side : (plan : Plan) (f : RuleFault) → none_of plan f shapes.PatternSide ≡ list_all (λ n. none_up_to 4 (of_pattern_side plan n)) (run_from 1 16)
none-pattern_side plan f = all-pairs shapes.PatternSide (λ place. not (is_at plan f place)) refl

pub none-pattern_ring : (plan : Plan) (f : RuleFault) → none_of plan f shapes.PatternRing ≡ list_all (λ n. none_up_to 2 (of_pattern_ring plan n)) (run_from 1 16)
none-pattern_ring plan f = all-pairs shapes.PatternRing (λ place. not (is_at plan f place)) refl

pub none-entry : (plan : Plan) (f : RuleFault) → none_of plan f shapes.Entry ≡ none_up_to 32 (runs_nothing plan)
none-entry plan f = all-singles shapes.Entry (λ place. not (is_at plan f place)) refl refl

pub none-day_event : (plan : Plan) (f : RuleFault) → none_of plan f shapes.DayEvent ≡ list_all (λ d. none_up_to 16 (names_undefined plan d)) (run_from 1 16)
none-day_event plan f = all-pairs shapes.DayEvent (λ place. not (is_at plan f place)) refl

pub none-day_events : (plan : Plan) (f : RuleFault) →
    none_of plan f shapes.DayEvents ≡ list_all (λ d. list_all (λ j. none_up_to 16 (come_together plan d j)) (run_from 1 16)) (run_from 1 16)
none-day_events plan f = all-places shapes.DayEvents (λ place. not (is_at plan f place))

pub none-action : (plan : Plan) (f : RuleFault) → none_of plan f shapes.Action ≡ none_up_to 32 (of_action plan f)
none-action plan f = all-singles shapes.Action (λ place. not (is_at plan f place)) refl refl
