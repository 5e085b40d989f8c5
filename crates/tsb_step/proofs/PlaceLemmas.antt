-- The table of objects with 16 phases, 4 sides and all of the others is that of plans in memory. So a plan in memory has
-- nothing where it has no place.
use Rattle.std.proofs.Common.{◌≡◌, ℕ, ◌<◌, ◌==◌, nat_le, true, false, ◌&&◌, length, None, refl, sym, ap, inl, inr, ◌∙◌}
use Rattle.std.specs.List.{list_all}
use Rattle.std.proofs.lemmas.Bool.{cases_Bool, eqb-true, true≢false, and_parts}
use Rattle.std.proofs.lemmas.List.Folds.{list_all_at}
use Rattle.tsb_objects.specs.tsb_plan.declared.object.Object.{Object}
use Rattle.tsb_objects.specs.tsb_plan.declared.object.Object.TheVariants.{PhaseEnabled}
use Rattle.tsb_objects.specs.tsb_plan.declared.plan.Plan as memory
use Rattle.tsb_objects.specs.tsb_plan.Objects.{objects, order, indices, greatest, has_index, value_in}
use Rattle.tsb_objects.specs.tsb_plan.declared.object.ObjectId.{ObjectId}
use Rattle.tsb_objects.specs.tsb_plan.Plan.{Plan, all_counts}
use Rattle.tsb_objects.specs.tsb_plan.PlanOf.{plan_of, put_refusal}
use Rattle.tsb_objects.proofs.tsb_plan.TableLemmas.{at-order, order-below, length-objects}
use Rattle.tsb_objects.specs.tsb_rules.Rules.{first_broken}
use Rattle.tsb_step.specs.Tables.{indices_for, greatest_for, place_refusal, is_as_in_table, all_as_in_table}
use Rattle.tsb_step.specs.Laws.{IsConsistent, IsWide}

as_in_table : (o : Object) → is_as_in_table o ≡ true
as_in_table o =
    elim (cases_Bool (is_as_in_table o)) [
      | inl it ↦ it
      | inr not_it ↦ (let bad : list_all is_as_in_table objects ≡ false =
          list_all_at is_as_in_table objects (order o) PhaseEnabled within (ap is_as_in_table (at-order o) ∙ not_it) in
          absurd (true≢false (sym all_as_in_table ∙ bad)))
    ]
  where
    within : order o < length objects
    within = rw length-objects (order-below o)

pub same_indices : (o : Object) → indices_for 16 all_counts o ≡ indices o
same_indices o =
    eqb-true (indices_for 16 all_counts o) (indices o)
    (and_parts (indices_for 16 all_counts o == indices o) (greatest_for 16 4 o == greatest o) (as_in_table o)).0

pub same_greatest : (o : Object) → greatest_for 16 4 o ≡ greatest o
same_greatest o =
    eqb-true (greatest_for 16 4 o) (greatest o)
    (and_parts (indices_for 16 all_counts o == indices o) (greatest_for 16 4 o == greatest o) (as_in_table o)).1

pub memory_is_consistent : (plan : memory.Plan) → first_broken (plan_of plan) ≡ None → IsConsistent (plan_of plan)
unfolding plan_of
memory_is_consistent plan rules = record { rules = rules; placed = placed }
  where
    placed : (o : Object) (i : ℕ) → (nat_le 1 i && nat_le i (indices_for 16 all_counts o)) ≡ false → value_in plan.values o i ≡ 0
    placed o i out =
        let off : has_index o i ≡ false = rw (same_indices o) at out in
        rw off refl

pub same_refusal : (plan : Plan) (id : ObjectId) (v : ℕ) → IsWide plan → place_refusal plan id v ≡ put_refusal id v
same_refusal plan id v wide = rw (wide.phases, wide.sides, wide.counts, same_indices id.object, same_greatest id.object) refl
