-- What pedestrian recycle gives, by computing: on the built-in plan of eight phases, in which phase 2 walks for 4
-- seconds and clears in 6, so that a walk takes 100 ticks. Phases 2 and 4 have the option.
use Rattle.std.specs.Prelude.{◌≡◌, ℕ, List, [], ◌∷◌, Option, Some, None, filter, map, refl}
use Rattle.tsb_objects.specs.tsb_types.Lists.{run_from}
use Rattle.tsb_objects.specs.tsb_plan.declared.object.Object.TheVariants.{PhasePedestrianRecycle, PhaseWalk, PhasePedestrianClear, PatternPermissiveTime}
use Rattle.tsb_objects.specs.tsb_plan.Plan.{Plan, with_value, with_values}
use Rattle.tsb_objects.specs.tsb_plan.Quad.{quad}
use Rattle.tsb_objects.specs.tsb_rules.PatternRules.{split_sum, side_sum, split_end, coordinated_count}
use Rattle.tsb_objects.specs.tsb_rules.Rules.{first_broken, broken_by_rings, broken_by_phases, broken_by_parts, broken_by_extensions, broken_by_schedule, broken_by_overlaps}
use Rattle.tsb_coord.specs.Coordinated.{force_off, walk_and_clearance, recycle_end, asks_recycle, ends_recycle}
use Rattle.tsb_coord.proofs.Examples.LeadLagExamples.{led}

-- instants 510, 760, 110, 360 in ring 1 and in ring 2, in a cycle of 800; phases 2 and 6 are coordinated
unfoldable pub recycling : Plan
recycling = with_values quad ((PhasePedestrianRecycle, 2, 1) ∷ (PhasePedestrianRecycle, 4, 1) ∷ [])

recycling_is_consistent : first_broken recycling ≡ None
unfolding recycling quad run_from split_sum side_sum split_end coordinated_count first_broken broken_by_rings broken_by_phases broken_by_parts broken_by_extensions broken_by_schedule broken_by_overlaps
recycling_is_consistent = refl

a_walk_takes : walk_and_clearance recycling 2 ≡ 100
unfolding recycling quad
a_walk_takes = refl

-- the phases of a plan that a pattern lets walk again at tick t
abbrev pub walking : Plan → Option ℕ → ℕ → List ℕ
walking plan selected t = filter (asks_recycle plan t selected) (run_from 1 16)

-- ## Up to the last tick in which the walk fits: from 660 its clearance ends at 760

-- phase 2 alone: 4 is not coordinated, and 6 has not the option
up_to_its_end : map (walking recycling (Some 1)) (0 ∷ 360 ∷ 659 ∷ 660 ∷ 661 ∷ 759 ∷ [])
    ≡ (2 ∷ []) ∷ (2 ∷ []) ∷ (2 ∷ []) ∷ (2 ∷ []) ∷ [] ∷ [] ∷ []
unfolding recycling quad run_from split_sum side_sum split_end force_off
up_to_its_end = refl

-- not at the instant, and in the tick after it for the next one
at_its_instant : map (walking recycling (Some 1)) (760 ∷ 761 ∷ 799 ∷ 800 ∷ 1460 ∷ 1461 ∷ [])
    ≡ [] ∷ (2 ∷ []) ∷ (2 ∷ []) ∷ (2 ∷ []) ∷ (2 ∷ []) ∷ [] ∷ []
unfolding recycling quad run_from split_sum side_sum split_end force_off
at_its_instant = refl

-- pattern 2 has the same instants, and its local 660 at tick 650
in_pattern_2 : map (walking recycling (Some 2)) (650 ∷ 651 ∷ []) ≡ (2 ∷ []) ∷ [] ∷ []
unfolding recycling quad run_from split_sum side_sum split_end force_off
in_pattern_2 = refl

-- none in free operation, with a pattern that is not used, and without the option
never_else : walking recycling None 360 ∷ walking recycling (Some 3) 360 ∷ walking quad (Some 1) 360 ∷ [] ≡ [] ∷ [] ∷ [] ∷ []
unfolding recycling quad run_from split_sum side_sum split_end force_off
never_else = refl

-- the time for it ends at 661, of phase 2 alone
its_ends : map (recycle_end recycling (Some 1)) (2 ∷ 4 ∷ 6 ∷ []) ≡ Some 661 ∷ None ∷ None ∷ []
unfolding recycling quad run_from split_sum side_sum split_end force_off
its_ends = refl

no_end_in_free : recycle_end recycling None 2 ≡ None
no_end_in_free = refl

ends_at_661 : map (λ t. filter (ends_recycle recycling t (Some 1)) (run_from 1 16)) (660 ∷ 661 ∷ 662 ∷ 1461 ∷ []) ≡ [] ∷ (2 ∷ []) ∷ [] ∷ (2 ∷ []) ∷ []
unfolding recycling quad run_from split_sum side_sum split_end force_off
ends_at_661 = refl

-- ## In the permissive time, which lasts up to 860, no walk begins, and after it one does

unfoldable pub permitted_too : Plan
permitted_too = with_value recycling PatternPermissiveTime 1 10

not_while_it_yields : map (walking permitted_too (Some 1)) (660 ∷ 661 ∷ 760 ∷ 799 ∷ 800 ∷ 860 ∷ 861 ∷ [])
    ≡ (2 ∷ []) ∷ [] ∷ [] ∷ [] ∷ [] ∷ [] ∷ (2 ∷ []) ∷ []
unfolding permitted_too recycling quad run_from split_sum side_sum split_end force_off
not_while_it_yields = refl

-- ## A pattern that leads and lags: phase 2 has its instant at 610, and 6 at 760, where its walk takes 120 ticks

unfoldable pub led_walks : Plan
led_walks = with_values led (
    (PhasePedestrianRecycle, 2, 1) ∷ (PhasePedestrianRecycle, 6, 1) ∷ (PhaseWalk, 6, 5) ∷ (PhasePedestrianClear, 6, 7) ∷ [])

led_walks_is_consistent : first_broken led_walks ≡ None
unfolding led_walks led quad run_from split_sum side_sum split_end coordinated_count first_broken broken_by_rings broken_by_phases broken_by_parts broken_by_extensions broken_by_schedule broken_by_overlaps
led_walks_is_consistent = refl

each_by_its_own : map (walking led_walks (Some 1)) (510 ∷ 511 ∷ 610 ∷ 611 ∷ 640 ∷ 641 ∷ 760 ∷ 761 ∷ [])
    ≡ (2 ∷ 6 ∷ []) ∷ (6 ∷ []) ∷ (6 ∷ []) ∷ (2 ∷ 6 ∷ []) ∷ (2 ∷ 6 ∷ []) ∷ (2 ∷ []) ∷ (2 ∷ []) ∷ (2 ∷ 6 ∷ []) ∷ []
unfolding led_walks led quad run_from split_sum side_sum split_end force_off
each_by_its_own = refl

-- ## A walk nearly as long as the cycle, of 790 ticks, fits just after the instant; one of 800 never does

unfoldable pub long_walk : Plan
long_walk = with_values recycling ((PhaseWalk, 2, 69) ∷ (PhasePedestrianClear, 2, 10) ∷ [])

just_behind : map (walking long_walk (Some 1)) (760 ∷ 761 ∷ 770 ∷ 771 ∷ []) ≡ [] ∷ (2 ∷ []) ∷ (2 ∷ []) ∷ [] ∷ []
unfolding long_walk recycling quad run_from split_sum side_sum split_end force_off
just_behind = refl

unfoldable pub longer_walk : Plan
longer_walk = with_values recycling ((PhaseWalk, 2, 70) ∷ (PhasePedestrianClear, 2, 10) ∷ [])

never_fits : map (walking longer_walk (Some 1)) (0 ∷ 660 ∷ 760 ∷ 761 ∷ []) ≡ [] ∷ [] ∷ [] ∷ [] ∷ []
unfolding longer_walk recycling quad run_from split_sum side_sum split_end force_off
never_fits = refl
