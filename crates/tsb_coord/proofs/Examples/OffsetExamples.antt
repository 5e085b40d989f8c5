-- Offsets that are counted to the begin of green of the first coordinated phase, by computing: in the plan that leads and
-- lags the split of phase 2 is from 0 to 250 of the cycle of 800, and local 0 is at 400. The offset of pattern 2 is 790.
use Rattle.std.specs.Prelude.{◌≡◌, ℕ, ◌%◌, ◌==◌, [], ◌∷◌, Some, None, map, if◌then◌else◌, refl}
use Rattle.tsb_objects.specs.tsb_types.Lists.{run_from}
use Rattle.tsb_objects.specs.tsb_plan.declared.object.Object.TheVariants.{CoordReference}
use Rattle.tsb_objects.specs.tsb_plan.Parts.{cycle, offset, offset_reference}
use Rattle.tsb_objects.specs.tsb_plan.Plan.{Plan, with_value}
use Rattle.tsb_objects.specs.tsb_plan.Quad.{quad}
use Rattle.tsb_objects.specs.tsb_rules.PatternRules.{split_sum, side_sum, split_end, coordinated_count}
use Rattle.tsb_objects.specs.tsb_rules.Rules.{first_broken, broken_by_rings, broken_by_phases, broken_by_parts, broken_by_extensions, broken_by_schedule, broken_by_overlaps}
use Rattle.tsb_objects.specs.Instants.{counted_to, offset_in_effect}
use Rattle.tsb_coord.specs.Coordinated.{local, residue_of_difference, end_of, reference, force_off}
use Rattle.tsb_coord.specs.OffsetLaws.{with_offsets}
use Rattle.tsb_coord.proofs.Examples.LeadLagExamples.{led}

abbrev to_green : Plan
to_green = with_value led CoordReference 1 1

is_consistent : first_broken to_green ≡ None
unfolding led quad run_from split_sum side_sum split_end coordinated_count first_broken broken_by_rings broken_by_phases broken_by_parts broken_by_extensions broken_by_schedule broken_by_overlaps
is_consistent = refl

to_its_green : counted_to (offset_reference to_green) to_green 2 ∷ reference to_green 2 ∷ [] ≡ Some 0 ∷ Some 6 ∷ []
unfolding led quad run_from split_sum side_sum split_end
to_its_green = refl

at_the_offset : 790 % cycle to_green 2 ≡ offset to_green 2
unfolding led quad
at_the_offset = refl

-- so long after local 0 the split of phase 2 begins
comes_at_the_offset : local to_green 790 (Some 2) ≡ Some 400
unfolding led quad run_from split_sum side_sum split_end
comes_at_the_offset = refl

is_its_begin : residue_of_difference (cycle to_green 2) 0 (end_of to_green 2 6) ≡ 400
unfolding led quad run_from split_sum side_sum split_end
is_its_begin = refl

-- with the begin of yellow in its place the counter is at the force-off instant of phase 2
at_its_yellow : local (with_value led CoordReference 1 3) 790 (Some 2) ≡ force_off led (Some 2) 2
unfolding led quad run_from split_sum side_sum split_end force_off
at_its_yellow = refl

-- ## The converted offsets: 40 s in pattern 1, 39 s in pattern 2

abbrev converted : ℕ → ℕ
converted n = if n == 1 then 40 else (if n == 2 then 39 else 0)

are_alike : map (offset_in_effect (with_offsets to_green converted 0)) (run_from 1 16) ≡ map (offset_in_effect to_green) (run_from 1 16)
unfolding led quad run_from split_sum side_sum split_end
are_alike = refl
