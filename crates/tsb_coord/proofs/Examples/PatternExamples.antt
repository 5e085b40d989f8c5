-- What the definitions give, by computing, where patterns differ: in their sequence, in their split table, and in what
-- each split mode of a phase does while they run.
use Rattle.std.specs.Prelude.{◌≡◌, ℕ, Bool, true, false, List, [], ◌∷◌, Option, Some, None, map, refl}
use Rattle.tsb_objects.specs.tsb_types.Lists.{run_from}
use Rattle.tsb_objects.specs.tsb_plan.declared.object.Object.TheVariants.{SequenceData, PatternSequenceNumber, PatternSplitNumber, SplitTime, SplitMode, SplitCoordPhase}
use Rattle.tsb_objects.specs.tsb_plan.Plan.{Plan, with_value, with_values}
use Rattle.tsb_objects.specs.tsb_plan.Running.{is_on_minimum_recall, is_on_maximum_recall, is_on_pedestrian_recall, is_omitted_now}
use Rattle.tsb_objects.specs.tsb_plan.Quad.{quad}
use Rattle.tsb_objects.specs.tsb_rules.PatternRules.{split_sum, side_sum, split_end, coordinated_count}
use Rattle.tsb_objects.specs.tsb_rules.Rules.{first_broken, broken_by_rings, broken_by_phases, broken_by_parts, broken_by_extensions, broken_by_schedule, broken_by_overlaps}
use Rattle.tsb_coord.specs.Coordinated.{force_off, serving_order}
use Rattle.tsb_coord.proofs.Examples.Examples.{instants, quad_instants}

-- ## Pattern 1 with sequence 2, in which 2 comes before 1 and 6 before 5

unfoldable pub lagging : Plan
lagging = with_values quad (
    (PatternSequenceNumber, 1, 2) ∷
    (SequenceData, 33, 2) ∷ (SequenceData, 34, 1) ∷ (SequenceData, 35, 3) ∷ (SequenceData, 36, 4) ∷
    (SequenceData, 49, 6) ∷ (SequenceData, 50, 5) ∷ (SequenceData, 51, 7) ∷ (SequenceData, 52, 8) ∷ [])

lagging_is_consistent : first_broken lagging ≡ None
unfolding lagging quad run_from split_sum side_sum split_end coordinated_count first_broken broken_by_rings broken_by_phases broken_by_parts broken_by_extensions broken_by_schedule broken_by_overlaps
lagging_is_consistent = refl

orders_of_ring_1 : serving_order lagging (Some 1) 1 ∷ serving_order lagging None 1 ∷ []
    ≡ (2 ∷ 1 ∷ 3 ∷ 4 ∷ 0 ∷ 0 ∷ 0 ∷ 0 ∷ 0 ∷ 0 ∷ 0 ∷ 0 ∷ 0 ∷ 0 ∷ 0 ∷ 0 ∷ [])
    ∷ (1 ∷ 2 ∷ 3 ∷ 4 ∷ 0 ∷ 0 ∷ 0 ∷ 0 ∷ 0 ∷ 0 ∷ 0 ∷ 0 ∷ 0 ∷ 0 ∷ 0 ∷ 0 ∷ []) ∷ []
unfolding lagging quad run_from
orders_of_ring_1 = refl

-- phase 1 ends its split after phase 2's
lagging_instants : instants lagging 1
    ≡ Some 110 ∷ Some 760 ∷ Some 260 ∷ Some 510 ∷ Some 110 ∷ Some 760 ∷ Some 260 ∷ Some 510 ∷ None ∷ []
unfolding lagging quad run_from split_sum side_sum split_end force_off
lagging_instants = refl

-- pattern 2 has sequence 1
leading_instants : instants lagging 2 ≡ quad_instants
unfolding lagging quad run_from split_sum side_sum split_end force_off
leading_instants = refl

-- ## Pattern 2 with split table 2: splits of 20, 20, 10 and 30 seconds, and 4 and 8 coordinated

unfoldable pub second_table : Plan
second_table = with_values quad (
    (PatternSplitNumber, 2, 2) ∷
    (SplitTime, 17, 20) ∷ (SplitTime, 18, 20) ∷ (SplitTime, 19, 10) ∷ (SplitTime, 20, 30) ∷
    (SplitTime, 21, 20) ∷ (SplitTime, 22, 20) ∷ (SplitTime, 23, 10) ∷ (SplitTime, 24, 30) ∷
    (SplitCoordPhase, 20, 1) ∷ (SplitCoordPhase, 24, 1) ∷ [])

second_table_is_consistent : first_broken second_table ≡ None
unfolding second_table quad run_from split_sum side_sum split_end coordinated_count first_broken broken_by_rings broken_by_phases broken_by_parts broken_by_extensions broken_by_schedule broken_by_overlaps
second_table_is_consistent = refl

second_table_instants : instants second_table 2
    ≡ Some 160 ∷ Some 360 ∷ Some 460 ∷ Some 760 ∷ Some 160 ∷ Some 360 ∷ Some 460 ∷ Some 760 ∷ None ∷ []
unfolding second_table quad run_from split_sum side_sum split_end force_off
second_table_instants = refl

-- pattern 1 has table 1
first_table_instants : instants second_table 1 ≡ quad_instants
unfolding second_table quad run_from split_sum side_sum split_end force_off
first_table_instants = refl

-- ## What split modes 0 to 5 of phase 3 do in pattern 1: none, minimum recall, maximum recall, pedestrian recall,
-- maximum and pedestrian recall, omit

abbrev pub by_mode : (Plan → Option ℕ → ℕ → Bool) → Option ℕ → List Bool
by_mode word runs = map (λ mode. word (with_value quad SplitMode 3 mode) runs 3) (run_from 0 6)

on_minimum_recall : by_mode is_on_minimum_recall (Some 1) ≡ false ∷ true ∷ false ∷ false ∷ false ∷ false ∷ []
unfolding quad run_from
on_minimum_recall = refl

on_maximum_recall : by_mode is_on_maximum_recall (Some 1) ≡ false ∷ false ∷ true ∷ false ∷ true ∷ false ∷ []
unfolding quad run_from
on_maximum_recall = refl

on_pedestrian_recall : by_mode is_on_pedestrian_recall (Some 1) ≡ false ∷ false ∷ false ∷ true ∷ true ∷ false ∷ []
unfolding quad run_from
on_pedestrian_recall = refl

omitted : by_mode is_omitted_now (Some 1) ≡ false ∷ false ∷ false ∷ false ∷ false ∷ true ∷ []
unfolding quad run_from
omitted = refl

-- and nothing in free operation
abbrev pub never : List Bool
never = false ∷ false ∷ false ∷ false ∷ false ∷ false ∷ []

in_free_operation : by_mode is_on_minimum_recall None ∷ by_mode is_on_maximum_recall None ∷
    by_mode is_on_pedestrian_recall None ∷ by_mode is_omitted_now None ∷ [] ≡ never ∷ never ∷ never ∷ never ∷ []
unfolding quad run_from
in_free_operation = refl

-- a coordinated phase is on minimum recall, as phase 2 is in pattern 1
coordinated_recall : map (is_on_minimum_recall quad (Some 1)) (run_from 1 8)
    ≡ false ∷ true ∷ false ∷ false ∷ false ∷ true ∷ false ∷ false ∷ []
unfolding quad run_from
coordinated_recall = refl
