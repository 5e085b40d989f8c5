-- What late force-off gives, by computing: on the built-in plan of eight phases with coordForceMode 1, and on others
-- whose instants lie otherwise.
use Rattle.std.specs.Prelude.{◌≡◌, ℕ, List, [], ◌∷◌, Some, None, filter, map, refl}
use Rattle.tsb_objects.specs.tsb_types.Lists.{run_from}
use Rattle.tsb_objects.specs.tsb_plan.declared.object.Object.TheVariants.{CoordForceMode, PhaseYellowChange}
use Rattle.tsb_objects.specs.tsb_plan.Plan.{Plan, with_value, with_values}
use Rattle.tsb_objects.specs.tsb_plan.Quad.{quad}
use Rattle.tsb_objects.specs.tsb_rules.PatternRules.{split_sum, side_sum, split_end, coordinated_count}
use Rattle.tsb_objects.specs.tsb_rules.Rules.{first_broken, broken_by_rings, broken_by_phases, broken_by_parts, broken_by_extensions, broken_by_schedule, broken_by_overlaps}
use Rattle.tsb_coord.specs.Coordinated.{force_off, yields_to, late_end, asks_force_off}
use Rattle.tsb_coord.proofs.Examples.Examples.{four, short}

-- instants 510, 760, 110, 360 in ring 1 and in ring 2; phases 2 and 6 are coordinated
unfoldable pub late : Plan
late = with_value quad CoordForceMode 1 1

late_is_consistent : first_broken late ≡ None
unfolding late quad run_from split_sum side_sum split_end coordinated_count first_broken broken_by_rings broken_by_phases broken_by_parts broken_by_extensions broken_by_schedule broken_by_overlaps
late_is_consistent = refl

-- the phases of a plan that pattern 1 forces off at tick t
abbrev pub forced : Plan → ℕ → List ℕ
forced plan t = filter (asks_force_off plan t (Some 1)) (run_from 1 16)

-- ## Each phase from its instant up to 760

in_mode_0 : map (forced quad) (109 ∷ 110 ∷ 111 ∷ 759 ∷ 760 ∷ 761 ∷ [])
    ≡ [] ∷ (3 ∷ 7 ∷ []) ∷ [] ∷ [] ∷ (2 ∷ 6 ∷ []) ∷ [] ∷ []
unfolding quad run_from split_sum side_sum split_end force_off
in_mode_0 = refl

in_mode_1 : map (forced late) (109 ∷ 110 ∷ 111 ∷ 359 ∷ 360 ∷ 759 ∷ [])
    ≡ [] ∷ (3 ∷ 7 ∷ []) ∷ (3 ∷ 7 ∷ []) ∷ (3 ∷ 7 ∷ []) ∷ (3 ∷ 4 ∷ 7 ∷ 8 ∷ []) ∷ (1 ∷ 3 ∷ 4 ∷ 5 ∷ 7 ∷ 8 ∷ []) ∷ []
unfolding late quad run_from split_sum side_sum split_end force_off
in_mode_1 = refl

-- coordinated phases at 760 alone, and then none to the next cycle's 110
at_its_own : map (forced late) (760 ∷ 761 ∷ 799 ∷ 800 ∷ 909 ∷ 910 ∷ [])
    ≡ (2 ∷ 6 ∷ []) ∷ [] ∷ [] ∷ [] ∷ [] ∷ (3 ∷ 7 ∷ []) ∷ []
unfolding late quad run_from split_sum side_sum split_end force_off
at_its_own = refl

-- none in free operation, nor with a pattern that is not used
late_free : filter (asks_force_off late 600 None) (run_from 1 16) ∷ filter (asks_force_off late 600 (Some 3)) (run_from 1 16) ∷ [] ≡ [] ∷ [] ∷ []
unfolding late quad run_from force_off
late_free = refl

late_ends : map (late_end late (Some 1)) (run_from 1 8)
    ≡ Some 760 ∷ None ∷ Some 760 ∷ Some 760 ∷ Some 760 ∷ None ∷ Some 760 ∷ Some 760 ∷ []
unfolding late quad run_from split_sum side_sum split_end force_off
late_ends = refl

-- ## An instant behind that of the coordinated phase, which is 360: phase 3 from 390 on, past local 0, up to 360

unfoldable pub short_late : Plan
short_late = with_value short CoordForceMode 1 1

goes_on_past_zero : map (forced short_late) (59 ∷ 60 ∷ 359 ∷ 360 ∷ 389 ∷ 390 ∷ 399 ∷ 400 ∷ [])
    ≡ (3 ∷ []) ∷ (3 ∷ 7 ∷ []) ∷ (1 ∷ 3 ∷ 4 ∷ 5 ∷ 7 ∷ 8 ∷ []) ∷ (2 ∷ 6 ∷ []) ∷ [] ∷ (3 ∷ []) ∷ (3 ∷ []) ∷ (3 ∷ []) ∷ []
unfolding short_late quad run_from split_sum side_sum split_end force_off
goes_on_past_zero = refl

-- ## Each ring has its own coordinated phase: 2 at 760, and 6 at 750, as its yellow is a second longer

unfoldable pub apart : Plan
apart = with_values quad ((CoordForceMode, 1, 1) ∷ (PhaseYellowChange, 6, 40) ∷ [])

apart_is_consistent : first_broken apart ≡ None
unfolding apart quad run_from split_sum side_sum split_end coordinated_count first_broken broken_by_rings broken_by_phases broken_by_parts broken_by_extensions broken_by_schedule broken_by_overlaps
apart_is_consistent = refl

by_rings : map (forced apart) (749 ∷ 750 ∷ 759 ∷ 760 ∷ [])
    ≡ (1 ∷ 3 ∷ 4 ∷ 5 ∷ 7 ∷ 8 ∷ []) ∷ (1 ∷ 3 ∷ 4 ∷ 6 ∷ []) ∷ (1 ∷ 3 ∷ 4 ∷ []) ∷ (2 ∷ []) ∷ []
unfolding apart quad run_from split_sum side_sum split_end force_off
by_rings = refl

-- ## A ring without a coordinated phase: 14 of ring 2 yields to 4 of ring 1, whose instant is 660

unfoldable pub four_late : Plan
four_late = with_value four CoordForceMode 1 1

of_the_other_ring : yields_to four_late 1 14 ≡ Some 4
unfolding four_late four run_from
of_the_other_ring = refl

by_the_first : map (forced four_late) (409 ∷ 410 ∷ 659 ∷ 660 ∷ [])
    ≡ (10 ∷ []) ∷ (10 ∷ 12 ∷ 14 ∷ []) ∷ (2 ∷ 10 ∷ 12 ∷ 14 ∷ []) ∷ (4 ∷ []) ∷ []
unfolding four_late four run_from split_sum side_sum split_end force_off
by_the_first = refl
