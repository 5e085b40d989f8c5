use Rattle.std.proofs.Common.{◌≡◌, ◌++◌, drop}
use Rattle.tsb_field_diagram.proofs.WeekLemmas.{days_at}
use Rattle.tsb_field_diagram.proofs.week.append_days.Given as goal

-- the labels so far, and those of the days that are left, are all
abbrev pub invariant-loop-place : goal.invariant-loop-place
invariant-loop-place l = l.text.items ++ days_at l.place (drop l.place l.days) ≡ l.initial.text.items ++ days_at 0 l.days
