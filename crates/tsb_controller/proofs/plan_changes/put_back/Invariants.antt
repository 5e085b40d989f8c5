use Rattle.std.proofs.Common.{◌≡◌, ◌<◌, ℕ, get_or, length, map}
use Rattle.tsb_cells.specs.Diff.{apply_diff, part}
use Rattle.tsb_plan.specs.declared.object.TheConstants.{PLAN_CELLS}
use Rattle.tsb_controller.proofs.WordLemmas.{low}
use Rattle.tsb_controller.proofs.plan_changes.put_back.Given as goal

-- what is left to be put back leads to what all of it leads to, in the lower bits of each value
abbrev pub invariant-loop-cell : goal.invariant-loop-cell
invariant-loop-cell l = record {
  full : length l.words ≡ PLAN_CELLS;
  small : (k : ℕ) → get_or l.words k 0 < 65536;
  rest : map low (apply_diff l.words (part 0 PLAN_CELLS l.entries)) ≡ map low (apply_diff l.plan.values (part 0 PLAN_CELLS l.initial.entries));
}

abbrev pub decreases-loop-cell : goal.decreases-loop-cell
decreases-loop-cell l = length l.entries
