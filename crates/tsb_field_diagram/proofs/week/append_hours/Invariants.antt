use Rattle.std.proofs.Common.{◌≡◌, ◌-◌, ◌++◌}
use Rattle.tsb_field_diagram.proofs.WeekLemmas.{hours_from}
use Rattle.tsb_field_diagram.proofs.week.append_hours.Given as goal

-- the hours so far, and those that are left, are all
abbrev pub invariant-loop-hour : goal.invariant-loop-hour
invariant-loop-hour l = l.text.items ++ hours_from l.hour (25 - l.hour) ≡ l.initial.text.items ++ hours_from 0 25
