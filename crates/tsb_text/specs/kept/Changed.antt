-- The tick at which one of the inputs of rows changed last.
use Rattle.std.specs.Prelude.{ℕ, Bool, not, List, [], ◌∷◌, Option, Some, None, if◌then◌else◌}
use Rattle.tsb_types.specs.declared.row.Row.{Row}
use Rattle.tsb_log_text.specs.declared.log.LogRow.{LogRow}
use Rattle.tsb_step.specs.tsb_plan.Plan.{Plan}
use Rattle.tsb_step.specs.declared.inputs.Input.{Input}
use Rattle.tsb_step.specs.declared.inputs.Input.TheVariants.{Tick}
use Rattle.tsb_step.specs.Runs.{replay}
use Rattle.tsb_text.specs.kept.Kept.{last_row}

-- one is true and the other is not
abbrev pub differs : Bool → Bool → Bool
differs a b = if a then not b else b

-- the tick number of the newest tick whose row has another value than the row of the tick before it; all inputs are off
-- before the first
abbrev pub last_change : (Row → Bool) → Plan → List Input → Option ℕ
last_change value plan [] = None
last_change value plan (Tick row ∷ is) =
    if differs (value row) (value (last_row is)) then Some (replay plan (Tick row ∷ is)).now else last_change value plan is
last_change value plan (i ∷ is) = last_change value plan is

-- ## In rows of a log

-- this tick, where the value differs, unless there is a later one
abbrev pub or_later : Bool → ℕ → Option ℕ → Option ℕ
or_later differs tick (Some later) = Some later
or_later differs tick None = if differs then Some tick else None

-- the tick of the last of these rows that has another value than the row before it, where this one is before all of them
abbrev pub change_in : (Row → Bool) → Row → List LogRow → Option ℕ
change_in value before [] = None
change_in value before (r ∷ rs) = or_later (differs (value r.row) (value before)) r.tick (change_in value r.row rs)
