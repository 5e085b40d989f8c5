use Rattle.std.proofs.Common.{◌≡◌, ◌+◌, ◌-◌, ◌*◌, ◌≤◌}
use Rattle.tsb_history.specs.Bytes.{changes_at, IsLaid}
use Rattle.tsb_history.specs.History.{quiet_ticks}
use Rattle.tsb_history.proofs.bytes.quiet_before.Given as goal

-- those so far are of quiet ticks, and as many more are as are at the place that was reached
abbrev pub invariant-loop-quiet : goal.invariant-loop-quiet
invariant-loop-quiet l = record {
  few : l.quiet ≤ l.most;
  place : l.at + 3 * l.quiet ≡ l.end;
  laid : IsLaid (l.count - l.quiet) l.bytes l.at;
  sum : l.quiet + quiet_ticks (changes_at (l.count - l.quiet) l.bytes l.at) ≡ quiet_ticks (changes_at l.count l.bytes l.end);
}

abbrev pub decreases-loop-quiet : goal.decreases-loop-quiet
decreases-loop-quiet l = l.most - l.quiet
