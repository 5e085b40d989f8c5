use Rattle.std.proofs.Common.{◌≡◌, ℕ, ◌+◌, ◌<◌, get_or, length}
use Rattle.tsb_step.specs.tsb_types.declared.limits.TheConstants.{PREEMPTS}
use Rattle.tsb_step.specs.declared.status.PreemptState.TheVariants.{NotActive}
use Rattle.tsb_controller.specs.Layer.{rows_of}
use Rattle.tsb_controller.specs.StatusPromises.{TellsPreempt}
use Rattle.tsb_controller.proofs.controller.Controller.preempt_states.Given as goal

-- the list has the states of the preempts before this one
abbrev pub invariant-loop-k : goal.invariant-loop-k
invariant-loop-k l = record {
  full : length l.states ≡ PREEMPTS;
  told : (j : ℕ) → j < l.k → TellsPreempt l.entered (rows_of l.self) (j + 1) (get_or l.states j NotActive);
}
