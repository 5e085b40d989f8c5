use Rattle.std.proofs.Common.{◌≡◌, ℕ, ◌-◌, ◌≤◌, length, get_or, None}
use Rattle.tsb_objects.specs.Checked.{checked_plan}
use Rattle.tsb_controller.specs.Layer.{rows_of}
use Rattle.tsb_controller.specs.StatusPromises.{TellsWaitIn}
use Rattle.tsb_controller.proofs.controller.Controller.waits.Given as goal

-- the phases before this one are told
abbrev pub invariant-loop-k : goal.invariant-loop-k
invariant-loop-k l = record {
  to : l.k ≤ 16;
  full : length l.waits ≡ 16;
  told : (p : ℕ) → 1 ≤ p → p ≤ l.k → TellsWaitIn l.waiting l.found l.clock (checked_plan l.plan) (rows_of l.self) p (get_or l.waits (p - 1) None);
}
