use Rattle.std.proofs.Common.{◌≡◌, ℕ, ◌+◌, ◌<◌, ◌≤◌, false, ◌&&◌, slice_index}
use Rattle.tsb_types.specs.Sets.{has_number}
use Rattle.tsb_objects.specs.tsb_plan.PlanOf.{plan_of}
use Rattle.tsb_preempt.specs.Preempts.{may_begin}
use Rattle.tsb_preempt.specs.Rows.{serving_of, requests_by}
use Rattle.tsb_preempt.specs.Layer.{cells_of}
use Rattle.tsb_preempt.proofs.preempts.Preempts.one_begins.Given as goal

-- none of the preempts gone over begins
abbrev pub invariant-loop-n : goal.invariant-loop-n
invariant-loop-n l = record {
  from : 1 ≤ l.n;
  none : (k : ℕ) → 1 ≤ k → k < l.n →
      (has_number l.asking k && (may_begin (serving_of l.now l.was) k && requests_by l.now (plan_of l.plan) k (has_number l.asking k) false (slice_index (cells_of l.self) (1 + k)))) ≡ false;
}
