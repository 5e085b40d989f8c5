-- What the definitions give, by computing: on the built-in plan of eight phases, whose patterns 1 and 2 have a cycle of
-- 80 seconds, offsets of 0 and 79, and 2 and 6 coordinated; and on a plan of four sides.
use Rattle.std.specs.Prelude.{◌≡◌, ℕ, List, [], ◌∷◌, Option, Some, None, filter, map, refl}
use Rattle.tsb_objects.specs.tsb_types.declared.refusal.Refusal.TheVariants.{NoSuchPattern}
use Rattle.tsb_objects.specs.tsb_types.Lists.{run_from}
use Rattle.tsb_objects.specs.tsb_plan.declared.object.Object.TheVariants.{PhaseEnabled, PhaseRing, PhaseSide, PhaseConcurrency, PhaseYellowChange, PhaseRedClear, SequenceData, PatternCycleTime, PatternSplitNumber, PatternSequenceNumber, SplitTime, SplitMode, SplitCoordPhase}
use Rattle.tsb_objects.specs.tsb_plan.Plan.{Plan, empty, with_value, with_values}
use Rattle.tsb_objects.specs.tsb_plan.Quad.{quad, with_rows}
use Rattle.tsb_objects.specs.tsb_rules.PatternRules.{split_sum, side_sum, split_end, coordinated_count}
use Rattle.tsb_objects.specs.tsb_rules.Rules.{first_broken, broken_by_rings, broken_by_phases, broken_by_parts, broken_by_extensions, broken_by_schedule, broken_by_overlaps}
use Rattle.tsb_coord.specs.Coordinated.{local, residue_of_difference, end_of, instant_from, force_off, asks_force_off, asks_hold, asks_omit, refusal, selects}
use Rattle.tsb_coord.specs.Cells.{pattern_in, correction_in, pattern_cells}
use Rattle.tsb_coord.specs.Correction.{Correction, in_step}

-- ## The local counter

-- pattern 1: 0 at each whole cycle
first_locals : local quad 759 (Some 1) ∷ local quad 760 (Some 1) ∷ local quad 799 (Some 1) ∷ local quad 800 (Some 1) ∷ []
    ≡ Some 759 ∷ Some 760 ∷ Some 799 ∷ Some 0 ∷ []
unfolding quad
first_locals = refl

-- pattern 2: 0 at 790, 1590 ..
second_locals : local quad 760 (Some 2) ∷ local quad 790 (Some 2) ∷ local quad 1550 (Some 2) ∷ []
    ≡ Some 770 ∷ Some 0 ∷ Some 760 ∷ []
unfolding quad
second_locals = refl

-- no local counter in free operation, nor with a pattern that is not used
free_locals : local quad 759 None ∷ local quad 759 (Some 3) ∷ [] ≡ None ∷ None ∷ []
unfolding quad
free_locals = refl

-- ## Force-off instants

-- the residue of a difference that is negative, and below less than the modulus
residues : residue_of_difference 800 150 440 ∷ residue_of_difference 800 800 440 ∷ residue_of_difference 400 300 710 ∷ []
    ≡ 510 ∷ 360 ∷ 390 ∷ []
residues = refl

abbrev pub instants : Plan → ℕ → List (Option ℕ)
instants plan n = map (force_off plan (Some n)) (run_from 1 9)

abbrev pub quad_instants : List (Option ℕ)
quad_instants = Some 510 ∷ Some 760 ∷ Some 110 ∷ Some 360 ∷ Some 510 ∷ Some 760 ∷ Some 110 ∷ Some 360 ∷ None ∷ []

first_instants : instants quad 1 ≡ quad_instants
unfolding quad run_from split_sum side_sum split_end force_off
first_instants = refl

second_instants : instants quad 2 ≡ quad_instants
unfolding quad run_from split_sum side_sum split_end force_off
second_instants = refl

-- from phase 2 as from phase 6
by_either : map (instant_from quad 1 2) (run_from 1 8) ≡ map (instant_from quad 1 6) (run_from 1 8)
unfolding quad run_from split_sum side_sum split_end
by_either = refl

-- the instant is where the local counter meets it: 760 for phase 2
abbrev pub forced_at : ℕ → Option ℕ → List ℕ
forced_at t selected = filter (asks_force_off quad t selected) (run_from 1 8)

first_forced : map (λ t. forced_at t (Some 1)) (759 ∷ 760 ∷ 761 ∷ []) ≡ [] ∷ (2 ∷ 6 ∷ []) ∷ [] ∷ []
unfolding quad run_from split_sum side_sum split_end force_off
first_forced = refl

second_forced : forced_at 1550 (Some 2) ≡ 2 ∷ 6 ∷ []
unfolding quad run_from split_sum side_sum split_end force_off
second_forced = refl

none_forced : forced_at 760 None ≡ []
unfolding quad run_from force_off
none_forced = refl

-- an omitted phase's split counts for the phases after it
omitted_counts : instants (with_value quad SplitMode 3 5) 1 ≡ quad_instants
unfolding quad run_from split_sum side_sum split_end force_off
omitted_counts = refl

-- yellow change and red clearance of an omitted phase may be longer than the cycle: 51 seconds in one of 40
abbrev pub short : Plan
short = with_values
    (with_rows quad ((SplitTime, 10 ∷ 10 ∷ 10 ∷ 10 ∷ 10 ∷ 10 ∷ 10 ∷ 10 ∷ []) ∷ (PatternCycleTime, 40 ∷ 0 ∷ []) ∷ []))
    ((SplitMode, 3, 5) ∷ (PhaseYellowChange, 3, 255) ∷ (PhaseRedClear, 3, 255) ∷ [])

short_instants : instants short 1
    ≡ Some 260 ∷ Some 360 ∷ Some 390 ∷ Some 160 ∷ Some 260 ∷ Some 360 ∷ Some 60 ∷ Some 160 ∷ None ∷ []
unfolding quad run_from split_sum side_sum split_end force_off
short_instants = refl

-- ## Four sides: phases 2, 4, 10 and 12 of ring 1, a side each, and 14 of ring 2 beside 12. Splits end after the sums
-- of all lower sides, also in a ring that has no phases there

unfoldable pub four : Plan
four = with_values (with_rows empty ((SequenceData, 2 ∷ 4 ∷ 10 ∷ 12 ∷ []) ∷ [])) (
    (PhaseEnabled, 2, 1) ∷ (PhaseEnabled, 4, 1) ∷ (PhaseEnabled, 10, 1) ∷ (PhaseEnabled, 12, 1) ∷ (PhaseEnabled, 14, 1) ∷
    (PhaseRing, 2, 1) ∷ (PhaseRing, 4, 1) ∷ (PhaseRing, 10, 1) ∷ (PhaseRing, 12, 1) ∷ (PhaseRing, 14, 2) ∷
    (PhaseSide, 2, 1) ∷ (PhaseSide, 4, 2) ∷ (PhaseSide, 10, 3) ∷ (PhaseSide, 12, 4) ∷ (PhaseSide, 14, 4) ∷
    (PhaseConcurrency, 12, 8192) ∷ (PhaseConcurrency, 14, 2048) ∷ (SequenceData, 17, 14) ∷
    (PhaseYellowChange, 2, 30) ∷ (PhaseYellowChange, 4, 30) ∷ (PhaseYellowChange, 10, 30) ∷ (PhaseYellowChange, 12, 30) ∷
    (PhaseYellowChange, 14, 30) ∷ (PhaseRedClear, 2, 10) ∷ (PhaseRedClear, 4, 10) ∷ (PhaseRedClear, 10, 10) ∷
    (PhaseRedClear, 12, 10) ∷ (PhaseRedClear, 14, 10) ∷
    (SplitTime, 2, 10) ∷ (SplitTime, 4, 15) ∷ (SplitTime, 10, 20) ∷ (SplitTime, 12, 25) ∷ (SplitTime, 14, 25) ∷
    (SplitCoordPhase, 4, 1) ∷ (PatternCycleTime, 1, 70) ∷ (PatternSplitNumber, 1, 1) ∷ (PatternSequenceNumber, 1, 1) ∷ [])

-- its minimum greens, maximums and so on are 0, which the rules allow
four_is_consistent : first_broken four ≡ None
unfolding four run_from split_sum side_sum split_end coordinated_count first_broken broken_by_rings broken_by_phases broken_by_parts broken_by_extensions broken_by_schedule broken_by_overlaps
four_is_consistent = refl

four_ends : map (end_of four 1) (2 ∷ 4 ∷ 10 ∷ 12 ∷ 14 ∷ []) ≡ 100 ∷ 250 ∷ 450 ∷ 700 ∷ 700 ∷ []
unfolding four run_from split_sum side_sum split_end
four_ends = refl

four_instants : map (force_off four (Some 1)) (2 ∷ 4 ∷ 10 ∷ 12 ∷ 14 ∷ [])
    ≡ Some 510 ∷ Some 660 ∷ Some 160 ∷ Some 410 ∷ Some 410 ∷ []
unfolding four run_from split_sum side_sum split_end force_off
four_instants = refl

-- ## Hold and omit

abbrev pub held : Option ℕ → List ℕ
held selected = filter (asks_hold quad selected) (run_from 1 8)

hold : held (Some 1) ∷ held (Some 3) ∷ held None ∷ [] ≡ (2 ∷ 6 ∷ []) ∷ [] ∷ [] ∷ []
unfolding quad run_from
hold = refl

abbrev pub left_out : Option ℕ → List ℕ
left_out selected = filter (asks_omit (with_value quad SplitMode 3 5) selected) (run_from 1 8)

omit : left_out (Some 1) ∷ left_out None ∷ [] ≡ (3 ∷ []) ∷ [] ∷ []
unfolding quad run_from
omit = refl

-- ## Selecting a pattern: 1, 2 and free operation; E9 for a pattern that is not used, and for 17

refusals : map (refusal quad) (0 ∷ 1 ∷ 2 ∷ 3 ∷ 17 ∷ []) ≡ None ∷ None ∷ None ∷ Some NoSuchPattern ∷ Some NoSuchPattern ∷ []
unfolding quad
refusals = refl

selections : selects 0 ∷ selects 2 ∷ [] ≡ None ∷ Some 2 ∷ []
selections = refl

-- ## The cells

reads_back : map (λ o. pattern_in (pattern_cells o in_step None)) (None ∷ Some 16 ∷ []) ≡ None ∷ Some 16 ∷ []
reads_back = refl

-- and how its local counter comes into step
abbrev pub ahead_7 : Correction
ahead_7 = record { since = 1000; ahead = 7; midnight = 0 }

also_reads_back : map (λ c. correction_in (pattern_cells (Some 16) c None)) (in_step ∷ ahead_7 ∷ []) ≡ in_step ∷ ahead_7 ∷ []
also_reads_back = refl
