use Rattle.std.proofs.Common.{◌≡◌, ℕ, ◌+◌, ◌<◌, ◌≤◌, ◌==◌, ◌&&◌, not, get_or, length}
use Rattle.tsb_plan.specs.Plan.{is_concurrent}
use Rattle.tsb_plan.specs.PlanOf.{plan_of}
use Rattle.tsb_types.specs.Sets.{names}
use Rattle.tsb_objects.proofs.union_tables.conflicts.Given as goal

-- the sets so far are told
abbrev pub invariant-loop-k : goal.invariant-loop-k
invariant-loop-k l = record {
  full : length l.sets ≡ 16;
  told : (j p : ℕ) → j < l.k → 1 ≤ p → p ≤ 16 →
      names (get_or l.sets j 0) p ≡ (not (j + 1 == p) && not (is_concurrent (plan_of l.plan) p (j + 1)));
}
