use Rattle.std.proofs.Common.{◌≡◌, ◌≤◌, length, take}
use Rattle.tsb_types.specs.Sets.{all_off}
use Rattle.tsb_text.specs.kept.Changed.{change_in}
use Rattle.tsb_log_text.specs.RowInputs.{value_of}
use Rattle.tsb_text.proofs.kept.changed.change_in.Given as goal

abbrev pub invariant-loop-left : goal.invariant-loop-left
invariant-loop-left l = record {
  within : l.left ≤ length l.rows;
  same : change_in (value_of l.which) all_off (take l.left l.rows) ≡ change_in (value_of l.which) all_off l.rows;
}

abbrev pub decreases-loop-left : goal.decreases-loop-left
decreases-loop-left l = l.left
