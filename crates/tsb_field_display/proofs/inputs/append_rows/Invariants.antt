use Rattle.std.proofs.Common.{◌≡◌, ◌++◌, drop}
use Rattle.tsb_field_display.specs.Inputs.{events_behind, events_of_rows}
use Rattle.tsb_field_display.proofs.inputs.append_rows.Given as goal

-- what is told, with the rest, is all
abbrev pub invariant-loop-row : goal.invariant-loop-row
invariant-loop-row l = l.events.items ++ events_behind l.before (drop l.row-index l.rows) ≡ l.fn.events.items ++ events_of_rows l.rows
