use Rattle.std.proofs.Common.{◌≡◌, ◌-◌, ◌+◌, ◌++◌, get_or}
use Rattle.tsb_step.specs.declared.status.PreemptState.TheVariants.{NotActive}
use Rattle.tsb_status_text.specs.Json.{values_from, following}
use Rattle.tsb_status_text.specs.StatusText.{preempts_text, state_text}
use Rattle.tsb_lines.specs.ShortLines.{fitting}
use Rattle.tsb_status_text.specs.declared.line.TheConstants.{LONGEST}
use Rattle.tsb_status_text.proofs.groups.push_preempts.Given as goal

-- the states so far, and those that are left, are all
abbrev pub invariant-loop-k : goal.invariant-loop-k
invariant-loop-k l =
    fitting LONGEST (l.line ++ following l.first (values_from (state_text (λ n. get_or l.states (n - 1) NotActive)) (l.k + 1) (l.k-end - l.k)) 93)
    ≡ fitting LONGEST (l.fn.line ++ preempts_text (λ n. get_or l.states (n - 1) NotActive))
