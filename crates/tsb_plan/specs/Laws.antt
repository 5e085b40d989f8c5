-- What holds of the objects, of the cells of a plan and of its values, in words that do not retrace how they are found.
-- Each law here is the contract of a function in src/laws.rt.
use Rattle.std.specs.Prelude.{◌≡◌, ◌≢◌, ℕ, ◌+◌, ◌-◌, ◌<◌, true, List, map, length, slice_get, Ok, Some, None}
use Rattle.tsb_plan.specs.declared.object.Object.{Object}
use Rattle.tsb_plan.specs.declared.object.ObjectId.{ObjectId}
use Rattle.tsb_plan.specs.declared.object.TheConstants.{PLAN_CELLS}
use Rattle.tsb_types.specs.Lists.{run_from}
use Rattle.tsb_plan.specs.Objects.{objects, order, has_index, first_cell}
use Rattle.tsb_plan.specs.Plan.{Plan, with_value}
use Rattle.tsb_plan.specs.PlanOf.{plan_in, plan_cells, got, put_refusal}

-- the list of all objects has each at its place, and no other place
pub record AreInOrder : Type 0 where
  pub each : (o : Object) → slice_get objects (order o) ≡ Some o
  pub places : map order objects ≡ run_from 0 (length objects)

-- the cell is that of the object at the index
pub record IsCellOf (cell : ℕ) (o : Object) (i : ℕ) : Type 0 where
  pub has : has_index o i ≡ true
  pub at : first_cell o + (i - 1) ≡ cell

-- each object has a cell at each of its indices, one of the plan's
abbrev pub HaveCells : Type 0
HaveCells = (o : Object) (i : ℕ) → has_index o i ≡ true → first_cell o + (i - 1) < PLAN_CELLS

-- no cell is that of two
abbrev pub ShareNoCell : Type 0
ShareNoCell = (cell : ℕ) (o p : Object) (i k : ℕ) → IsCellOf cell o i → IsCellOf cell p k → (o ≡ p) × (i ≡ k)

-- each of the plan's cells is that of some object at some index
abbrev pub LeaveNoCell : Type 0
LeaveNoCell = (cell : ℕ) → cell < PLAN_CELLS → (o : Object) × ((i : ℕ) × IsCellOf cell o i)

-- the cells of a plan are the table of what they tell
abbrev pub PlansAreTold : Type 0
PlansAreTold = (cells : List ℕ) → length cells ≡ PLAN_CELLS → plan_cells (plan_in cells) ≡ cells

-- what is put is given back
abbrev pub GiveBackWhatIsPut : Type 0
GiveBackWhatIsPut = (plan : Plan) (id : ObjectId) (v : ℕ) → put_refusal id v ≡ None →
    got (with_value plan id.object id.index v) id ≡ Ok v

-- what is put changes no other value
abbrev pub LeaveOthers : Type 0
LeaveOthers = (plan : Plan) (id other : ObjectId) (v : ℕ) → id ≢ other →
    got (with_value plan id.object id.index v) other ≡ got plan other
