use Rattle.std.proofs.Common.{◌≡◌, ℕ, ◌+◌, ◌<◌, ◌==◌, get_or, length}
use Rattle.tsb_plan.specs.PlanOf.{plan_of}
use Rattle.tsb_types.specs.Sets.{names}
use Rattle.tsb_objects.proofs.tables.columns.Given as goal

-- the words so far are told
abbrev pub invariant-loop-k : goal.invariant-loop-k
invariant-loop-k g l = record {
  full : length l.words ≡ g.row.N;
  told : (k n : ℕ) → k < l.k → names (get_or l.words k 0) n ≡ ((plan_of l.plan).value l.object n == k + 1);
}
