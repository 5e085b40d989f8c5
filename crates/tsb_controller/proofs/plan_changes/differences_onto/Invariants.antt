use Rattle.std.proofs.Common.{◌≡◌, ◌+◌, ◌*◌, ◌≤◌, ◌++◌, length, drop}
use Rattle.tsb_cells.specs.Diff.{diff_from, diff}
use Rattle.tsb_plan.specs.declared.object.TheConstants.{PLAN_CELLS}
use Rattle.tsb_controller.proofs.plan_changes.differences_onto.Given as goal

-- what is added so far, and what the rest of the cells gives, is the whole difference
abbrev pub invariant-loop-block : goal.invariant-loop-block
invariant-loop-block g l = record {
  found : l.out.items ++ diff_from (l.block * 64) (drop (l.block * 64) l.before.values) (drop (l.block * 64) l.after.values)
      ≡ l.initial.out.items ++ diff l.before.values l.after.values;
  room : length l.out.items ≤ length l.initial.out.items + l.block * 64;
  most : length l.out.items ≤ length l.initial.out.items + PLAN_CELLS;
}
