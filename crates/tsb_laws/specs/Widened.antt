-- The bench of 16 phases and 4 sides in place of one of 8 and 2, with as many detectors, overlaps and preempts: the plan
-- that a plan text of version 1 becomes among these, and inputs, edits and states with it. All of it is the profile's own.
use Rattle.std.specs.Prelude.{◌≡◌, ℕ, ◌+◌, ◌-◌, ◌*◌, ◌/◌, ◌%◌, ◌≤◌, nat_le, nat_lt, Bool, true, false, ◌&&◌, if◌then◌else◌, List, [], ◌∷◌, map, Option, Some, None}
use Rattle.tsb_step.specs.tsb_types.declared.lamp.Lamp.{Lamp}
use Rattle.tsb_step.specs.tsb_types.declared.lamp.Lamp.TheVariants as lamps
use Rattle.tsb_step.specs.tsb_plan.declared.object.Object.{Object}
use Rattle.tsb_step.specs.tsb_plan.declared.object.ObjectId.{ObjectId}
use Rattle.tsb_step.specs.tsb_plan.declared.version.Version.TheVariants.{One}
use Rattle.tsb_step.specs.tsb_plan.Versions.{is_in_rows, has_index_in, greatest_in, translated}
use Rattle.tsb_step.specs.tsb_plan.Plan.{Plan, narrow_counts}
use Rattle.tsb_step.specs.tsb_transact.declared.edit.Edit.{Edit}
use Rattle.tsb_step.specs.tsb_transact.Desk.{Desk}
use Rattle.tsb_step.specs.declared.inputs.Input.{Input}
use Rattle.tsb_step.specs.declared.inputs.Input.TheVariants.{Fault, Set}
use Rattle.tsb_step.specs.State.{State}

-- ## Plans

-- a plan of version 1: 8 phases, 2 sides, and nothing given outside that version's table
pub record IsNarrow (plan : Plan) : Type 0 where
  pub phase_count : plan.phase_count ≡ 8
  pub side_count : plan.side_count ≡ 2
  pub counts : plan.counts ≡ narrow_counts
  pub placed : (o : Object) (i : ℕ) → has_index_in One o i ≡ false → plan.value o i ≡ 0
  pub bounded : (o : Object) (i : ℕ) → plan.value o i ≤ greatest_in One o

-- rows of 16 hold the 8 places of a row of version 1, and then 8 with nothing
abbrev pub is_of_version_1 : ℕ → Bool
is_of_version_1 i = nat_le 1 i && nat_lt ((i - 1) % 16) 8

-- the index in rows of 8 of a place in rows of 16
abbrev pub narrowed : ℕ → ℕ
narrowed i = 8 * ((i - 1) / 16) + (i - 1) % 16 + 1

-- the values of an object in rows of 16, by those in rows of 8
abbrev pub widened_row : (ℕ → ℕ) → ℕ → ℕ
widened_row v i = if is_of_version_1 i then v (narrowed i) else 0

-- an object in rows has its value at the same place of the same row, and any other at the same index
abbrev pub widened_value : (Object → ℕ → ℕ) → Object → ℕ → ℕ
widened_value v o i = if is_in_rows o then widened_row (v o) i else v o i

-- the plan of 16 phases and 4 sides
abbrev pub widened : Plan → Plan
widened plan = record { phase_count = 16; side_count = 4; counts = plan.counts; value = widened_value plan.value }

-- ## Inputs and edits

-- the object at the index where version 2 has what version 1 has at this one
abbrev pub widened_id : ObjectId → ObjectId
widened_id id = record { object = id.object; index = translated One id.object id.index }

-- a value that a station sets is set at the translated index; every other input is the same
abbrev pub widened_input : Input → Input
widened_input (Set station id v) = Set station (widened_id id) v
widened_input i = i

-- an object, index and value of version 1
pub record IsOfTable (id : ObjectId) (v : ℕ) : Type 0 where
  pub placed : has_index_in One id.object id.index ≡ true
  pub bounded : v ≤ greatest_in One id.object

-- a lamp of phases 1 to 8, or of an overlap
abbrev pub IsLampWithin : Option Lamp → Type 0
IsLampWithin None = Unit {0}
IsLampWithin (Some (lamps.Phase p color)) = p ≤ 8
IsLampWithin (Some (lamps.Pedestrian p color)) = p ≤ 8
IsLampWithin (Some (lamps.Overlap o color)) = Unit {0}
IsLampWithin (Some (lamps.Arrow o)) = Unit {0}

-- the inputs within version 1's ranges
abbrev pub IsWithin : Input → Type 0
IsWithin (Set station id v) = IsOfTable id v
IsWithin (Fault lamp) = IsLampWithin lamp
IsWithin i = Unit {0}

-- each edit is of an object, an index and a value of version 1
abbrev pub AreOfTable : List Edit → Type 0
AreOfTable [] = Unit {0}
AreOfTable (e ∷ es) = IsOfTable e.id e.value × AreOfTable es

-- the edit at the translated index, with its value as it is
abbrev pub widened_edit : Edit → Edit
widened_edit e = record { id = widened_id e.id; value = e.value }

-- owner, state and rule stay; the edits are translated, in their order
abbrev pub widened_desk : Desk → Desk
widened_desk desk = record desk { edits = map widened_edit desk.edits }

-- ## States and runs

-- the same state on the wide plan: its plan and the edits of its desk are widened, all else is the same
abbrev pub widened_state : State → State
widened_state s = record s { plan = widened s.plan; desk = widened_desk s.desk }

-- each input of a list is within version 1's ranges
abbrev pub AreWithin : List Input → Type 0
AreWithin [] = Unit {0}
AreWithin (i ∷ is) = IsWithin i × AreWithin is
