-- THE WAYS TO BREAK A RULE: which there are, of which rule each is, at what kind of place, when it is there, and all that a
-- plan has, in order.
use Rattle.std.specs.Prelude.{ℕ, Bool, false, ◌&&◌, if◌then◌else◌, List, [], ◌∷◌, flat_map}
use Rattle.tsb_plan.specs.declared.object.Object.TheVariants.{PhaseMaximum1, PhaseMaximum2, OverlapIncludedPhases, OverlapModifierPhases, PreemptTrackPhase, PreemptDwellPhase, PreemptExitPhase}
use Rattle.tsb_plan.specs.Parts.{leads_and_lags, sequence_of}
use Rattle.tsb_plan.specs.Plan.{Plan}
use Rattle.tsb_rules.specs.declared.rules.Rule.{Rule}
use Rattle.tsb_rules.specs.declared.rules.Rule.TheVariants as rules
use Rattle.tsb_rules.specs.PatternRules.{some_and}
use Rattle.tsb_breaches.specs.declared.breach.Breach.{Breach}
use Rattle.tsb_breaches.specs.declared.fault.RuleFault.{RuleFault}
use Rattle.tsb_breaches.specs.declared.fault.RuleFault.TheVariants.{K1, K2Ring, K2Side, K3, K4Unused, K4Ring, K4Side, K5, K6Unused, K6Ring, K6Missing, K6Again, K6Side, K6Gap, K7Unused, K7Ring, K7Missing, K7Again, K7Side, K7Gap, K8, K9, K10Maximum1, K10Maximum2, K11, K12, K13Unused, K13Walk, K14, K15TrackUnused, K15DwellUnused, K15ExitUnused, K15Track, K15Dwell, K15Exit, K16Track, K16Exit, K17Offset, K17Split, K17Sequence, K17Blank, K18, K19Rings, K19Cycle, K20None, K20Unused, K20Omitted, K20Sides, K20Apart, K20Ends, K20Ring, K21Unused, K21Type, K22, K23, K24, K25, K26, K27Number, K27Unused, K28Empty, K28Turns, K28Together, K29Yellow, K29Type}
use Rattle.tsb_breaches.specs.declared.fault.TheConstants.RuleFault.{ALL}
use Rattle.tsb_review.specs.declared.place.Place.{Place}
use Rattle.tsb_review.specs.declared.place.Place.TheVariants as at
use Rattle.tsb_review.specs.declared.place.Shape.{Shape}
use Rattle.tsb_review.specs.declared.place.Shape.TheVariants as shapes
use Rattle.tsb_breaches.specs.Phases.{has_no_phase, has_no_ring, has_no_side, keeps_list, names_unused, names_same_ring, names_other_side, is_not_named_back, has_short_yellow, has_long_gap, is_under_minimum, recalls_no_walk, has_low_limit}
use Rattle.tsb_breaches.specs.Sequences.{is_first, is_other, lists_unused as place_lists_unused, lists_other_ring, lists_again, falls, leaves_gap, is_missing}
use Rattle.tsb_breaches.specs.Lists.{calls_unused, button_calls_unused, button_calls_no_walk, lists_unused, lists_apart, has_no_dwell, modifies_nothing, points_nowhere, turns_otherwise, turns_with, trails_shortly, trails_otherwise}
use Rattle.tsb_breaches.specs.Patterns.{has_late_offset, has_no_split, has_no_sequence, has_blank_sequence, table_of, is_too_short, has_two_sums, misses_cycle, coordinates_none, coordinates_unused, coordinates_omitted, are_across, are_apart, end_apart, has_wrong_count, permits_always}
use Rattle.tsb_breaches.specs.Schedules.{asks_for_no_pattern, asks_for_unused, come_together, names_undefined, runs_nothing}
use Rattle.tsb_review.specs.Places.{places}

-- all of them, in order
unfoldable pub faults : List RuleFault
faults = ALL

-- the rule that is broken
abbrev pub rule_of : RuleFault → Rule
rule_of K1 = rules.K1
rule_of K2Ring = rules.K2
rule_of K2Side = rules.K2
rule_of K3 = rules.K3
rule_of K4Unused = rules.K4
rule_of K4Ring = rules.K4
rule_of K4Side = rules.K4
rule_of K5 = rules.K5
rule_of K6Unused = rules.K6
rule_of K6Ring = rules.K6
rule_of K6Missing = rules.K6
rule_of K6Again = rules.K6
rule_of K6Side = rules.K6
rule_of K6Gap = rules.K6
rule_of K7Unused = rules.K7
rule_of K7Ring = rules.K7
rule_of K7Missing = rules.K7
rule_of K7Again = rules.K7
rule_of K7Side = rules.K7
rule_of K7Gap = rules.K7
rule_of K8 = rules.K8
rule_of K9 = rules.K9
rule_of K10Maximum1 = rules.K10
rule_of K10Maximum2 = rules.K10
rule_of K11 = rules.K11
rule_of K12 = rules.K12
rule_of K13Unused = rules.K13
rule_of K13Walk = rules.K13
rule_of K14 = rules.K14
rule_of K15TrackUnused = rules.K15
rule_of K15DwellUnused = rules.K15
rule_of K15ExitUnused = rules.K15
rule_of K15Track = rules.K15
rule_of K15Dwell = rules.K15
rule_of K15Exit = rules.K15
rule_of K16Track = rules.K16
rule_of K16Exit = rules.K16
rule_of K17Offset = rules.K17
rule_of K17Split = rules.K17
rule_of K17Sequence = rules.K17
rule_of K17Blank = rules.K17
rule_of K18 = rules.K18
rule_of K19Rings = rules.K19
rule_of K19Cycle = rules.K19
rule_of K20None = rules.K20
rule_of K20Unused = rules.K20
rule_of K20Omitted = rules.K20
rule_of K20Sides = rules.K20
rule_of K20Apart = rules.K20
rule_of K20Ends = rules.K20
rule_of K20Ring = rules.K20
rule_of K21Unused = rules.K21
rule_of K21Type = rules.K21
rule_of K22 = rules.K22
rule_of K23 = rules.K23
rule_of K24 = rules.K24
rule_of K25 = rules.K25
rule_of K26 = rules.K26
rule_of K27Number = rules.K27
rule_of K27Unused = rules.K27
rule_of K28Empty = rules.K28
rule_of K28Turns = rules.K28
rule_of K28Together = rules.K28
rule_of K29Yellow = rules.K29
rule_of K29Type = rules.K29

-- the kind of the places at which it is
abbrev pub shape : RuleFault → Shape
shape K1 = shapes.Unit
shape K2Ring = shapes.Phase
shape K2Side = shapes.Phase
shape K3 = shapes.Phase
shape K4Unused = shapes.Phases
shape K4Ring = shapes.Phases
shape K4Side = shapes.Phases
shape K5 = shapes.Phases
shape K6Unused = shapes.Listing
shape K6Ring = shapes.Listing
shape K6Missing = shapes.SequencePhase
shape K6Again = shapes.Listing
shape K6Side = shapes.Listing
shape K6Gap = shapes.Listing
shape K7Unused = shapes.Listing
shape K7Ring = shapes.Listing
shape K7Missing = shapes.SequencePhase
shape K7Again = shapes.Listing
shape K7Side = shapes.Listing
shape K7Gap = shapes.Listing
shape K8 = shapes.Phase
shape K9 = shapes.Phase
shape K10Maximum1 = shapes.Phase
shape K10Maximum2 = shapes.Phase
shape K11 = shapes.Phase
shape K12 = shapes.Detector
shape K13Unused = shapes.PedestrianDetector
shape K13Walk = shapes.PedestrianDetector
shape K14 = shapes.OverlapPhase
shape K15TrackUnused = shapes.PreemptPhase
shape K15DwellUnused = shapes.PreemptPhase
shape K15ExitUnused = shapes.PreemptPhase
shape K15Track = shapes.PreemptPhases
shape K15Dwell = shapes.PreemptPhases
shape K15Exit = shapes.PreemptPhases
shape K16Track = shapes.Preempt
shape K16Exit = shapes.Preempt
shape K17Offset = shapes.Pattern
shape K17Split = shapes.Pattern
shape K17Sequence = shapes.Pattern
shape K17Blank = shapes.Pattern
shape K18 = shapes.PatternPhase
shape K19Rings = shapes.PatternSide
shape K19Cycle = shapes.Pattern
shape K20None = shapes.Pattern
shape K20Unused = shapes.PatternPhase
shape K20Omitted = shapes.PatternPhase
shape K20Sides = shapes.PatternPhases
shape K20Apart = shapes.PatternPhases
shape K20Ends = shapes.PatternPhases
shape K20Ring = shapes.PatternRing
shape K21Unused = shapes.OverlapPhase
shape K21Type = shapes.Overlap
shape K22 = shapes.Phase
shape K23 = shapes.Pattern
shape K24 = shapes.DayEvents
shape K25 = shapes.Entry
shape K26 = shapes.DayEvent
shape K27Number = shapes.Action
shape K27Unused = shapes.Action
shape K28Empty = shapes.Overlap
shape K28Turns = shapes.Overlap
shape K28Together = shapes.OverlapPhase
shape K29Yellow = shapes.Overlap
shape K29Type = shapes.Overlap

-- it is there at phase p
abbrev pub of_phase : Plan → RuleFault → ℕ → Bool
of_phase plan K2Ring p = has_no_ring plan p
of_phase plan K2Side p = has_no_side plan p
of_phase plan K3 p = keeps_list plan p
of_phase plan K8 p = has_short_yellow plan p
of_phase plan K9 p = has_long_gap plan p
of_phase plan K10Maximum1 p = is_under_minimum plan PhaseMaximum1 p
of_phase plan K10Maximum2 p = is_under_minimum plan PhaseMaximum2 p
of_phase plan K11 p = recalls_no_walk plan p
of_phase plan K22 p = has_low_limit plan p
of_phase plan f p = false

-- it is there at the list of phase p, for phase q
abbrev pub of_phases : Plan → RuleFault → ℕ → ℕ → Bool
of_phases plan K4Unused p q = names_unused plan p q
of_phases plan K4Ring p q = names_same_ring plan p q
of_phases plan K4Side p q = names_other_side plan p q
of_phases plan K5 p q = is_not_named_back plan p q
of_phases plan f p q = false

-- its rule asks something of sequence s
abbrev pub asks_of : Plan → RuleFault → ℕ → Bool
asks_of plan K6Unused s = is_first s
asks_of plan K6Ring s = is_first s
asks_of plan K6Missing s = is_first s
asks_of plan K6Again s = is_first s
asks_of plan K6Side s = is_first s
asks_of plan K6Gap s = is_first s
asks_of plan K7Unused s = is_other plan s
asks_of plan K7Ring s = is_other plan s
asks_of plan K7Missing s = is_other plan s
asks_of plan K7Again s = is_other plan s
asks_of plan K7Side s = is_other plan s
asks_of plan K7Gap s = is_other plan s
asks_of plan f s = false

-- what sequence s lists for ring r at place k is not as its rule asks
abbrev pub is_listed_wrongly : Plan → RuleFault → ℕ → ℕ → ℕ → Bool
is_listed_wrongly plan K6Unused s r k = place_lists_unused plan s r k
is_listed_wrongly plan K6Ring s r k = lists_other_ring plan s r k
is_listed_wrongly plan K6Again s r k = lists_again plan s r k
is_listed_wrongly plan K6Side s r k = falls plan s r k
is_listed_wrongly plan K6Gap s r k = leaves_gap plan s r k
is_listed_wrongly plan K7Unused s r k = place_lists_unused plan s r k
is_listed_wrongly plan K7Ring s r k = lists_other_ring plan s r k
is_listed_wrongly plan K7Again s r k = lists_again plan s r k
is_listed_wrongly plan K7Side s r k = falls plan s r k
is_listed_wrongly plan K7Gap s r k = leaves_gap plan s r k
is_listed_wrongly plan f s r k = false

-- it is there at what sequence s lists for ring r at place k
abbrev pub of_listing : Plan → RuleFault → ℕ → ℕ → ℕ → Bool
of_listing plan f s r k = asks_of plan f s && is_listed_wrongly plan f s r k

-- it is there at what sequence s lists for ring r, for phase p
abbrev pub of_sequence_phase : Plan → RuleFault → ℕ → ℕ → ℕ → Bool
of_sequence_phase plan f s r p = asks_of plan f s && is_missing plan s r p

-- it is there at pedestrian detector d
abbrev pub of_pedestrian_detector : Plan → RuleFault → ℕ → Bool
of_pedestrian_detector plan K13Unused d = button_calls_unused plan d
of_pedestrian_detector plan K13Walk d = button_calls_no_walk plan d
of_pedestrian_detector plan f d = false

-- overlap o has it
abbrev pub of_overlap : Plan → RuleFault → ℕ → Bool
of_overlap plan K21Type o = modifies_nothing plan o
of_overlap plan K28Empty o = points_nowhere plan o
of_overlap plan K28Turns o = turns_otherwise plan o
of_overlap plan K29Yellow o = trails_shortly plan o
of_overlap plan K29Type o = trails_otherwise plan o
of_overlap plan f o = false

-- it is there at overlap o, for phase p
abbrev pub of_overlap_phase : Plan → RuleFault → ℕ → ℕ → Bool
of_overlap_phase plan K14 o p = lists_unused plan OverlapIncludedPhases o p
of_overlap_phase plan K21Unused o p = lists_unused plan OverlapModifierPhases o p
of_overlap_phase plan K28Together o p = turns_with plan o p
of_overlap_phase plan f o p = false

-- it is there at preempt m
abbrev pub of_preempt : Plan → RuleFault → ℕ → Bool
of_preempt plan K16Track m = has_no_dwell plan PreemptTrackPhase m
of_preempt plan K16Exit m = has_no_dwell plan PreemptExitPhase m
of_preempt plan f m = false

-- it is there at preempt m, for phase p
abbrev pub of_preempt_phase : Plan → RuleFault → ℕ → ℕ → Bool
of_preempt_phase plan K15TrackUnused m p = lists_unused plan PreemptTrackPhase m p
of_preempt_phase plan K15DwellUnused m p = lists_unused plan PreemptDwellPhase m p
of_preempt_phase plan K15ExitUnused m p = lists_unused plan PreemptExitPhase m p
of_preempt_phase plan f m p = false

-- it is there at preempt m, for phases p and q
abbrev pub of_preempt_phases : Plan → RuleFault → ℕ → ℕ → ℕ → Bool
of_preempt_phases plan K15Track m p q = lists_apart plan PreemptTrackPhase m p q
of_preempt_phases plan K15Dwell m p q = lists_apart plan PreemptDwellPhase m p q
of_preempt_phases plan K15Exit m p q = lists_apart plan PreemptExitPhase m p q
of_preempt_phases plan f m p q = false

-- it is there at split table t of pattern n
abbrev pub of_table : Plan → RuleFault → ℕ → ℕ → Bool
of_table plan K19Cycle n t = misses_cycle plan n t
of_table plan K20None n t = coordinates_none plan t
of_table plan f n t = false

-- it is there at pattern n
abbrev pub of_pattern : Plan → RuleFault → ℕ → Bool
of_pattern plan K17Offset n = has_late_offset plan n
of_pattern plan K17Split n = has_no_split plan n
of_pattern plan K17Sequence n = has_no_sequence plan n
of_pattern plan K17Blank n = has_blank_sequence plan n
of_pattern plan K23 n = permits_always plan n
of_pattern plan f n = some_and (of_table plan f n) (table_of plan n)

-- it is there at phase p of split table t
abbrev pub of_split : Plan → RuleFault → ℕ → ℕ → Bool
of_split plan K18 p t = is_too_short plan t p
of_split plan K20Unused p t = coordinates_unused plan t p
of_split plan K20Omitted p t = coordinates_omitted plan t p
of_split plan f p t = false

-- it is there at pattern n, for phase p
abbrev pub of_pattern_phase : Plan → RuleFault → ℕ → ℕ → Bool
of_pattern_phase plan f n p = some_and (of_split plan f p) (table_of plan n)

-- it is there at phases p and q of split table t of pattern n
abbrev pub of_splits : Plan → RuleFault → ℕ → ℕ → ℕ → ℕ → Bool
of_splits plan K20Sides n p q t = are_across plan t p q
of_splits plan K20Apart n p q t = are_apart plan t p q
of_splits plan K20Ends n p q t = some_and (end_apart plan (leads_and_lags plan n) t p q) (sequence_of plan n)
of_splits plan f n p q t = false

-- it is there at pattern n, for phases p and q
abbrev pub of_pattern_phases : Plan → RuleFault → ℕ → ℕ → ℕ → Bool
of_pattern_phases plan f n p q = some_and (of_splits plan f n p q) (table_of plan n)

-- it is there at pattern n, for side d
abbrev pub of_pattern_side : Plan → ℕ → ℕ → Bool
of_pattern_side plan n d = some_and (λ t. has_two_sums plan t d) (table_of plan n)

-- it is there at pattern n, for ring r
abbrev pub of_pattern_ring : Plan → ℕ → ℕ → Bool
of_pattern_ring plan n r = some_and (λ t. has_wrong_count plan t r) (table_of plan n)

-- action a has it
abbrev pub of_action : Plan → RuleFault → ℕ → Bool
of_action plan K27Number a = asks_for_no_pattern plan a
of_action plan K27Unused a = asks_for_unused plan a
of_action plan f a = false

-- it is there at a place of its kind; where that is the kind of it alone, the kind says which it is
abbrev pub is_at : Plan → RuleFault → Place → Bool
is_at plan f at.Unit = has_no_phase plan
is_at plan f (at.Phase p) = of_phase plan f p
is_at plan f (at.Phases p q) = of_phases plan f p q
is_at plan f (at.Listing s r k) = of_listing plan f s r k
is_at plan f (at.SequencePhase s r p) = of_sequence_phase plan f s r p
is_at plan f (at.Detector d) = calls_unused plan d
is_at plan f (at.PedestrianDetector d) = of_pedestrian_detector plan f d
is_at plan f (at.Overlap o) = of_overlap plan f o
is_at plan f (at.OverlapPhase o p) = of_overlap_phase plan f o p
is_at plan f (at.Preempt m) = of_preempt plan f m
is_at plan f (at.PreemptPhase m p) = of_preempt_phase plan f m p
is_at plan f (at.PreemptPhases m p q) = of_preempt_phases plan f m p q
is_at plan f (at.Pattern n) = of_pattern plan f n
is_at plan f (at.PatternPhase n p) = of_pattern_phase plan f n p
is_at plan f (at.PatternPhases n p q) = of_pattern_phases plan f n p q
is_at plan f (at.PatternSide n d) = of_pattern_side plan n d
is_at plan f (at.PatternRing n r) = of_pattern_ring plan n r
is_at plan f (at.Entry e) = runs_nothing plan e
is_at plan f (at.DayEvent d k) = names_undefined plan d k
is_at plan f (at.DayEvents d j k) = come_together plan d j k
is_at plan f (at.Action a) = of_action plan f a
is_at plan f place = false

-- the breach at a place, where there is one
abbrev pub found : Plan → RuleFault → Place → List Breach
found plan f place = if is_at plan f place then (record { fault = f; place = place }) ∷ [] else []

-- those of one way to break a rule, place after place
unfoldable pub breaches_of : Plan → RuleFault → List Breach
breaches_of plan f = flat_map (found plan f) (places (shape f))

-- all that a plan has, in order
unfoldable pub breaches : Plan → List Breach
breaches plan = flat_map (breaches_of plan) faults
