use Rattle.std.proofs.Common.{◌≡◌, ℕ, ◌≤◌, ◌-◌, ◌&&◌, true, false, slice_index}
use Rattle.tsb_cells.specs.Timer.{is_below, timer_at}
use Rattle.tsb_step.specs.tsb_types.Sets.{has, size}
use Rattle.tsb_step.specs.tsb_plan.Plan.{red_clear}
use Rattle.tsb_step.specs.tsb_plan.PlanOf.{plan_of}
use Rattle.tsb_controller.proofs.times.within_red_clearance.Given as goal

abbrev pub decreases-loop-p : goal.decreases-loop-p
decreases-loop-p l = size l.rest

-- the phases taken out so far are told, and none of those that are left
abbrev pub invariant-loop-p : goal.invariant-loop-p
invariant-loop-p l = record {
  told : (p : ℕ) → 1 ≤ p → p ≤ 16 → has l.rest p ≡ false → has l.timing p
      ≡ (has l.fn.phases p && is_below (timer_at l.now (slice_index l.since (p - 1))) (red_clear (plan_of l.plan) p));
  within : (p : ℕ) → has l.rest p ≡ true → has l.fn.phases p ≡ true;
  left : (p : ℕ) → has l.rest p ≡ true → has l.timing p ≡ false;
}
