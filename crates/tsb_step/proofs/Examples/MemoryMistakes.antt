-- What the law that speaks of the program's plans refuses, by computing: a plan in memory that gives what lies beyond an
-- object's indices, and a plan of another number of phases.
use Rattle.std.specs.Prelude.{◌≡◌, ℕ, ◌+◌, ◌-◌, false, List, slice_index, Some, None, refl}
use Rattle.tsb_types.specs.declared.refusal.Refusal.TheVariants.{NoSuchObject}
use Rattle.tsb_types.specs.Lists.{run_from}
use Rattle.tsb_objects.specs.tsb_plan.declared.object.Object.{Object}
use Rattle.tsb_objects.specs.tsb_plan.declared.object.Object.TheVariants.{PhaseRing, PhaseMaximum1}
use Rattle.tsb_objects.specs.tsb_plan.declared.object.ObjectId.{ObjectId}
use Rattle.tsb_objects.specs.tsb_plan.Objects.{objects, first_cell, value_in}
use Rattle.tsb_objects.specs.tsb_plan.Plan.{Plan, empty}
use Rattle.tsb_objects.specs.tsb_plan.PlanOf.{plan_cells, put_refusal}
use Rattle.tsb_objects.specs.tsb_plan.Two.{two}
use Rattle.tsb_step.specs.Tables.{has_place, place_refusal}

-- ## Plans in memory give nothing where an object has no place: one that gives the next object's value

abbrev value_beyond : List ℕ → Object → ℕ → ℕ
value_beyond cells o i = slice_index cells (first_cell o + (i - 1))

-- there is no phaseRing of phase 18; in its place is phaseSide of phase 2
has_no_place : has_place two PhaseRing 18 ≡ false
unfolding two
has_no_place = refl

gives_none : value_in (plan_cells two) PhaseRing 18 ≡ 0
gives_none = refl

would_give_1 : value_beyond (plan_cells two) PhaseRing 18 ≡ 1
unfolding two objects first_cell run_from
would_give_1 = refl

-- ## They refuse the same values: a plan of 8 phases and 2 sides

abbrev maximum_of_9 : ObjectId
maximum_of_9 = record { object = PhaseMaximum1; index = 9 }

takes_9 : place_refusal empty maximum_of_9 20 ≡ None
takes_9 = refl

memory_takes_9 : put_refusal maximum_of_9 20 ≡ None
memory_takes_9 = refl

abbrev narrow : Plan
narrow = record empty { phase_count = 8; side_count = 2 }

would_refuse_9 : place_refusal narrow maximum_of_9 20 ≡ Some NoSuchObject
would_refuse_9 = refl
