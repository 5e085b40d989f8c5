use Rattle.std.proofs.Common.{◌≡◌, ◌++◌, drop}
use Rattle.tsb_field_display.specs.Events.{events_after, events_of_lines}
use Rattle.tsb_field_display.proofs.merge.append_changes.Given as goal

-- what is told, with the rest, is all
abbrev pub invariant-loop-line : goal.invariant-loop-line
invariant-loop-line l = l.events.items ++ events_after l.before (drop l.line-index l.changes) ≡ l.fn.events.items ++ events_of_lines l.changes
