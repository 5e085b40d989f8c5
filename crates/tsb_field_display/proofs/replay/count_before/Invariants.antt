use Rattle.std.proofs.Common.{ℕ, ◌≤◌, ◌<◌, length, get_or}
use Rattle.tsb_field_display.specs.Remaining.{no_line}
use Rattle.tsb_field_display.proofs.replay.count_before.Given as goal

-- those from count on are not before the tick
abbrev pub invariant-loop-count : goal.invariant-loop-count
invariant-loop-count l = record {
  within : l.count ≤ length l.lines;
  above : (j : ℕ) → l.count ≤ j → j < length l.lines → l.tick ≤ (get_or l.lines j no_line).tick;
}

abbrev pub decreases-loop-count : goal.decreases-loop-count
decreases-loop-count l = l.count
