use Rattle.std.proofs.Common.{◌≡◌, ◌+◌, ◌-◌, ◌≤◌, ◌++◌, length, drop}
use Rattle.tsb_cells.specs.Diff.{diff_from}
use Rattle.tsb_controller.proofs.plan_changes.differences_within.Given as goal

-- what is added so far, and what the rest of the cells gives, is what all from the first on give
abbrev pub invariant-loop-k : goal.invariant-loop-k
invariant-loop-k g l = record {
  to : l.k ≤ l.end;
  found : l.out.items ++ diff_from l.k (drop l.k l.before.values) (drop l.k l.after.values)
      ≡ l.initial.out.items ++ diff_from l.first (drop l.first l.before.values) (drop l.first l.after.values);
  room : length l.out.items ≤ length l.initial.out.items + (l.k - l.first);
}
