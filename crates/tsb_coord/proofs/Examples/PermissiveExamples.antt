-- What a permissive time gives, by computing: on the built-in plan of eight phases with 10 seconds of it in pattern 1.
use Rattle.std.specs.Prelude.{◌≡◌, [], ◌∷◌, true, Some, None, filter, map, refl}
use Rattle.tsb_objects.specs.tsb_types.Lists.{run_from}
use Rattle.tsb_objects.specs.tsb_plan.declared.object.Object.TheVariants.{PatternPermissiveTime}
use Rattle.tsb_objects.specs.tsb_plan.Plan.{Plan, with_value}
use Rattle.tsb_objects.specs.tsb_plan.Quad.{quad}
use Rattle.tsb_objects.specs.tsb_rules.PatternRules.{split_sum, side_sum, split_end, coordinated_count}
use Rattle.tsb_objects.specs.tsb_rules.Rules.{first_broken, broken_by_rings, broken_by_phases, broken_by_parts, broken_by_extensions, broken_by_schedule, broken_by_overlaps}
use Rattle.tsb_coord.specs.Coordinated.{local, permissive_end, force_off, asks_force_off, ends_permissive_time}
use Rattle.tsb_coord.specs.Laws.{clear_of}
use Rattle.tsb_coord.proofs.Examples.LateExamples.{forced}

-- instants 510, 760, 110, 360 in ring 1 and in ring 2, in a cycle of 800; phases 2 and 6 are coordinated
unfoldable pub permitted : Plan
permitted = with_value quad PatternPermissiveTime 1 10

permitted_is_consistent : first_broken permitted ≡ None
unfolding permitted quad run_from split_sum side_sum split_end coordinated_count first_broken broken_by_rings broken_by_phases broken_by_parts broken_by_extensions broken_by_schedule broken_by_overlaps
permitted_is_consistent = refl

-- coordinated phases from 760 up to 860, which is 60 of the next cycle, and the others at their instants alone
in_its_time : map (forced permitted) (510 ∷ 511 ∷ 759 ∷ 760 ∷ 761 ∷ 799 ∷ 800 ∷ 860 ∷ 861 ∷ [])
    ≡ (1 ∷ 5 ∷ []) ∷ [] ∷ [] ∷ (2 ∷ 6 ∷ []) ∷ (2 ∷ 6 ∷ []) ∷ (2 ∷ 6 ∷ []) ∷ (2 ∷ 6 ∷ []) ∷ (2 ∷ 6 ∷ []) ∷ [] ∷ []
unfolding permitted quad run_from split_sum side_sum split_end force_off
in_its_time = refl

-- it ends at local 61, in pattern 1 alone
its_end : map (permissive_end permitted (Some 1)) (1 ∷ 2 ∷ 6 ∷ []) ≡ None ∷ Some 61 ∷ Some 61 ∷ []
unfolding permitted quad run_from split_sum side_sum split_end force_off
its_end = refl

no_end_elsewhere : permissive_end permitted (Some 2) 2 ∷ permissive_end permitted None 2 ∷ permissive_end quad (Some 1) 2 ∷ [] ≡ None ∷ None ∷ None ∷ []
unfolding permitted quad run_from split_sum side_sum split_end force_off
no_end_elsewhere = refl

ends_at_61 : filter (ends_permissive_time permitted 861 (Some 1)) (run_from 1 16) ≡ 2 ∷ 6 ∷ []
unfolding permitted quad run_from split_sum side_sum split_end force_off
ends_at_61 = refl

-- forced off in its last tick, a phase is clear 100 ticks behind local 0
in_last_tick : asks_force_off permitted 860 (Some 1) 2 ≡ true
unfolding permitted quad run_from split_sum side_sum split_end force_off
in_last_tick = refl

ends_behind_zero : local permitted (clear_of permitted 860 2) (Some 1) ≡ Some 100
unfolding permitted quad
ends_behind_zero = refl
