-- What a plan in memory says, and what its calls answer.
use Rattle.std.specs.Prelude.{ℕ, List, map, flat_map, Option, Some, None, Result, Ok, Err, if◌then◌else◌, nat_le}
use Rattle.tsb_plan.specs.declared.object.ObjectId.{ObjectId}
use Rattle.tsb_types.specs.declared.refusal.Refusal.{Refusal}
use Rattle.tsb_types.specs.declared.refusal.Refusal.TheVariants.{NoSuchObject, OutOfRange}
use Rattle.tsb_plan.specs.declared.plan.Plan as memory
use Rattle.tsb_types.specs.Lists.{run_from}
use Rattle.tsb_plan.specs.Objects.{objects, indices, value_in, has_index, greatest}
use Rattle.tsb_plan.specs.Plan.{Plan, all_counts}

-- the plan that such cells tell, of 16 phases, 4 sides and all detectors, overlaps and preempts
abbrev pub plan_in : List ℕ → Plan
plan_in cells = record { phase_count = 16; side_count = 4; counts = all_counts; value = value_in cells }

-- the plan that a plan in memory holds
unfoldable pub plan_of : memory.Plan → Plan
plan_of plan = plan_in plan.values

-- the value of an object, or that it has no such index
abbrev pub got : Plan → ObjectId → Result ℕ Refusal
got plan id = if has_index id.object id.index then Ok (plan.value id.object id.index) else Err NoSuchObject

-- why a value is not put, if it is not: the index first, then the value
abbrev pub put_refusal : ObjectId → ℕ → Option Refusal
put_refusal id v =
    if has_index id.object id.index then (if nat_le v (greatest id.object) then None else Some OutOfRange)
    else Some NoSuchObject

-- the cells of a plan: of each object in order, its value at each index
abbrev pub plan_cells : Plan → List ℕ
plan_cells plan = flat_map (λ o. map (plan.value o) (run_from 1 (indices o))) objects
