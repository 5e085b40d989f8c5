-- What holds of the desk after every run, as statements. Both are proved, each as a clause of the contract of a
-- function that does nothing (src/desk.rt).
use Rattle.std.specs.Prelude.{◌≡◌, None}
use Rattle.tsb_step.specs.tsb_rules.Rules.{first_broken}
use Rattle.tsb_step.specs.tsb_transact.declared.desk_state.DeskState.TheVariants.{Done}
use Rattle.tsb_step.specs.tsb_transact.Desk.{with_edits}
use Rattle.tsb_step.specs.Good.{AreFit}
use Rattle.tsb_step.specs.Laws.{OfEveryRun}

-- While the desk is in Done its edits, laid over the plan in effect, break no rule: so a commit that is not refused
-- puts no other plan into effect.
abbrev pub VerifiedEditsBreakNoRule : Type 0
VerifiedEditsBreakNoRule = OfEveryRun (λ s. s.desk.state ≡ Done → first_broken (with_edits s.plan s.desk.edits) ≡ None)

-- Each edit at the desk is of an object and an index that the plan in effect has, with a value that it takes there.
abbrev pub EditsFit : Type 0
EditsFit = OfEveryRun (λ s. AreFit s.plan s.desk.edits)
