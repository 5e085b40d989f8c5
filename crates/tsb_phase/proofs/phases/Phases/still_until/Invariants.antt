use Rattle.std.proofs.Common.{◌≡◌, ℕ, ◌<◌, ◌≤◌, false}
use Rattle.tsb_objects.specs.tsb_plan.PlanOf.{plan_of}
use Rattle.tsb_objects.specs.tsb_types.Sets.{has, size}
use Rattle.tsb_phase.specs.Promises.{given_of}
use Rattle.tsb_phase.specs.Cells.{row_in}
use Rattle.tsb_phase.specs.Due.{IsStill, StaysReverted}
use Rattle.tsb_phase.specs.Layer.{cells_of}
use Rattle.tsb_phase.proofs.phases.Phases.still_until.Given as goal

abbrev pub decreases-loop-p : goal.decreases-loop-p
decreases-loop-p l = size l.rest

-- each phase that is not to be visited is still up to then, and what is said of red revert timers stays the same
abbrev pub invariant-loop-p : goal.invariant-loop-p
invariant-loop-p l = record {
  reverts : (t q : ℕ) → t < l.due → 1 ≤ q → q ≤ 16 → StaysReverted (plan_of l.plan) (cells_of l.self) l.now t q;
  still : (t q : ℕ) → l.now < t → t < l.due → 1 ≤ q → q ≤ 16 → has l.rest q ≡ false →
      IsStill (plan_of l.plan) (given_of l.conditions) q (row_in (cells_of l.self) q) l.now t;
}
