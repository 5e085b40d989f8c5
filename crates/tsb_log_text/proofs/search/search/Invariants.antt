use Rattle.std.proofs.Common.{◌<◌, ◌≤◌, ◌-◌, length}
use Rattle.tsb_log_text.specs.Places.{tick_at}
use Rattle.tsb_log_text.proofs.search.search.Given as goal

abbrev pub invariant-loop-low : goal.invariant-loop-low
invariant-loop-low l = record {
  ordered : l.low ≤ l.high;
  within : l.high ≤ length l.rows;
  below : 0 < l.low → tick_at l.rows (l.low - 1) ≤ l.tick;
  above : l.high < length l.rows → l.tick < tick_at l.rows l.high;
}

abbrev pub decreases-loop-low : goal.decreases-loop-low
decreases-loop-low l = l.high - l.low
