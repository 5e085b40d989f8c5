use Rattle.std.proofs.Common.{◌≡◌, ◌-◌, ℕ, ◌≤◌, true, get_or}
use Rattle.tsb_step.specs.declared.status.PreemptState.TheVariants.{NotActive}
use Rattle.tsb_status_text.specs.StatusText.{is_not_active}
use Rattle.tsb_status_text.proofs.groups.shown_preempts.Given as goal

-- none after the fourth is active so far
abbrev pub invariant-loop-k : goal.invariant-loop-k
invariant-loop-k l = (n : ℕ) → 5 ≤ n → n ≤ l.k → is_not_active (get_or l.states (n - 1) NotActive) ≡ true
