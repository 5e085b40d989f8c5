use Rattle.std.proofs.Common.{◌≡◌, ℕ, ◌+◌, ◌-◌, ◌≤◌, length, slice_index}
use Rattle.tsb_step.specs.tsb_plan.declared.object.Object.TheVariants.{SplitTime}
use Rattle.tsb_step.specs.tsb_plan.PlanOf.{plan_of}
use Rattle.tsb_controller.proofs.selected.splits_of.Given as goal

-- the splits of the phases before this one are told
abbrev pub invariant-loop-k : goal.invariant-loop-k
invariant-loop-k l = record {
  to : l.k ≤ 16;
  full : length l.splits ≡ 16;
  told : (p : ℕ) → 1 ≤ p → p ≤ l.k → slice_index l.splits (p - 1) ≡ (plan_of l.plan).value SplitTime (l.before + p);
}
