use Rattle.std.proofs.Common.{◌≡◌, ◌-◌, ◌≤◌}
use Rattle.tsb_types.specs.Calendar.{month_up_to}
use Rattle.tsb_types.proofs.calendar.month_of.Given as goal

-- the month is the last of those so far that has begun
abbrev pub invariant-loop-next : goal.invariant-loop-next
invariant-loop-next l = record {
  value : l.month ≡ month_up_to l.leap l.day (l.next - 2);
  from_one : 1 ≤ l.month;
  within : l.month ≤ 12;
}
