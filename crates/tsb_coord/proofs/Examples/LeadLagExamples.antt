-- What a pattern gives that leads and lags, by computing: the built-in plan of eight phases with its rings changed
-- over, so that phases 5 to 8 are ring 1's, and with 2 before 1 in ring 2. Phase 2's split ends at 250 of the cycle of
-- 800, phase 6's at 400: local 0 is the latter.
use Rattle.std.specs.Prelude.{◌≡◌, [], ◌∷◌, true, Some, None, map, refl}
use Rattle.tsb_objects.specs.tsb_types.Lists.{run_from}
use Rattle.tsb_objects.specs.tsb_plan.declared.object.Object.TheVariants.{CoordForceMode, PhaseRing, SequenceData, PatternLeadLag}
use Rattle.tsb_objects.specs.tsb_plan.Parts.{cycle}
use Rattle.tsb_objects.specs.tsb_plan.Plan.{Plan, with_value, with_values}
use Rattle.tsb_objects.specs.tsb_plan.Quad.{quad}
use Rattle.tsb_objects.specs.tsb_rules.PatternRules.{split_sum, side_sum, split_end, coordinated_count}
use Rattle.tsb_objects.specs.tsb_rules.Rules.{first_broken, broken_by_rings, broken_by_phases, broken_by_parts, broken_by_extensions, broken_by_schedule, broken_by_overlaps}
use Rattle.tsb_coord.specs.Coordinated.{local, residue_of_difference, end_of, instant_from, first_coordinated, reference, force_off, is_at_force_off}
use Rattle.tsb_coord.specs.Laws.{clear_of}
use Rattle.tsb_coord.proofs.Examples.Examples.{instants}
use Rattle.tsb_coord.proofs.Examples.LateExamples.{forced}

unfoldable pub led : Plan
led = with_values quad (
    (PhaseRing, 1, 2) ∷ (PhaseRing, 2, 2) ∷ (PhaseRing, 3, 2) ∷ (PhaseRing, 4, 2) ∷
    (PhaseRing, 5, 1) ∷ (PhaseRing, 6, 1) ∷ (PhaseRing, 7, 1) ∷ (PhaseRing, 8, 1) ∷
    (SequenceData, 1, 5) ∷ (SequenceData, 2, 6) ∷ (SequenceData, 3, 7) ∷ (SequenceData, 4, 8) ∷
    (SequenceData, 17, 2) ∷ (SequenceData, 18, 1) ∷ (SequenceData, 19, 3) ∷ (SequenceData, 20, 4) ∷
    (PatternLeadLag, 1, 1) ∷ (PatternLeadLag, 2, 1) ∷ [])

led_is_consistent : first_broken led ≡ None
unfolding led quad run_from split_sum side_sum split_end coordinated_count first_broken broken_by_rings broken_by_phases broken_by_parts broken_by_extensions broken_by_schedule broken_by_overlaps
led_is_consistent = refl

-- instants are counted from 6 of ring 1, and not from the first
leads : reference led 1 ∷ first_coordinated led 1 ∷ [] ≡ Some 6 ∷ Some 2 ∷ []
unfolding led quad run_from
leads = refl

led_instants : instants led 1
    ≡ Some 760 ∷ Some 610 ∷ Some 110 ∷ Some 360 ∷ Some 510 ∷ Some 760 ∷ Some 110 ∷ Some 360 ∷ None ∷ []
unfolding led quad run_from split_sum side_sum split_end force_off
led_instants = refl

-- phase 2 has its own instant, and is clear where its own split ends
at_its_own : is_at_force_off led 610 (Some 1) 2 ≡ true
unfolding led quad run_from split_sum side_sum split_end force_off
at_its_own = refl

ends_with_its_own : local led (clear_of led 610 2) (Some 1) ≡ Some 650
unfolding led quad
ends_with_its_own = refl

its_split_ends : residue_of_difference (cycle led 1) (end_of led 1 2) (end_of led 1 6) ≡ 650
unfolding led quad run_from split_sum side_sum split_end
its_split_ends = refl

-- late force-off of ring 2 ends at 610: that of phase 1, with an instant of 760, goes on past local 0 to there
unfoldable pub led_late : Plan
led_late = with_value led CoordForceMode 1 1

late_by_rings : map (forced led_late) (759 ∷ 760 ∷ 799 ∷ 800 ∷ 910 ∷ 1409 ∷ 1410 ∷ [])
    ≡ (5 ∷ 7 ∷ 8 ∷ []) ∷ (1 ∷ 6 ∷ []) ∷ (1 ∷ []) ∷ (1 ∷ []) ∷ (1 ∷ 3 ∷ 7 ∷ []) ∷ (1 ∷ 3 ∷ 4 ∷ 5 ∷ 7 ∷ 8 ∷ []) ∷ (2 ∷ 5 ∷ 7 ∷ 8 ∷ []) ∷ []
unfolding led_late led quad run_from split_sum side_sum split_end force_off
late_by_rings = refl

-- ## A mistake: instants are counted from the first coordinated phase, 2. Phase 6 is then clear at 150, and not at 0

counted_from_it : instant_from led 1 2 6 ≡ 110
unfolding led quad run_from split_sum side_sum split_end
counted_from_it = refl

clears_elsewhere : local led (clear_of led (instant_from led 1 2 6) 6) (Some 1) ≡ Some 150
unfolding led quad run_from split_sum side_sum split_end
clears_elsewhere = refl
