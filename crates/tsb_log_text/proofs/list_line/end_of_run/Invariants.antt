use Rattle.std.proofs.Common.{◌≡◌, ◌≤◌, ◌-◌}
use Rattle.tsb_types.specs.Sets.{names}
use Rattle.tsb_log_text.specs.ListText.{run_end}
use Rattle.tsb_log_text.proofs.list_line.end_of_run.Given as goal

-- the run goes on up to here
abbrev pub invariant-loop-end : goal.invariant-loop-end
invariant-loop-end l = record {
  from : l.first ≤ l.end;
  within : l.end ≤ l.most;
  same : run_end l.first (l.most - l.first) (names l.on) ≡ run_end l.end (l.most - l.end) (names l.on);
}

abbrev pub decreases-loop-end : goal.decreases-loop-end
decreases-loop-end l = l.most - l.end
