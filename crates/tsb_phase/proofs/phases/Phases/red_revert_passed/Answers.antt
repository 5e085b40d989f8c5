use Rattle.std.proofs.Common.{ℕ, ◌+◌, ◌-◌, ◌≤◌, sym, arith, ◌∙◌}
use Rattle.tsb_objects.specs.Checked.{checked_plan}
use Rattle.tsb_objects.specs.tsb_plan.Plan.{red_revert}
use Rattle.tsb_objects.proofs.tsb_types.SetLemmas.{names-all}
use Rattle.tsb_phase.specs.Cells.{row_in}
use Rattle.tsb_phase.specs.Layer.{cells_of}
use Rattle.tsb_phase.proofs.RevertLemmas.{past-passed}
use Rattle.tsb_phase.proofs.phases.Phases.red_revert_passed.Goals as goal

pub returns-else-may_revert : goal.returns-else-may_revert
returns-else-may_revert c = λ p from within.
    let cell : ℕ = (row_in (cells_of c.args.self.now) p).red_revert in
    let short : cell ≤ c.args.now + 1 - c.longest_red_revert.result = c.may_revert.ensures.0 c.if-may_revert.false p from within in
    let long : red_revert (checked_plan c.args.plan.now) p ≤ c.longest_red_revert.result = c.longest_red_revert.ensures.none_longer p from within in
    let past : cell ≤ c.args.now + 1 - red_revert (checked_plan c.args.plan.now) p = omega (arith, short, long) in
    c.from_list.ensures p ∙ names-all p from within ∙ sym (past-passed c.args.now cell (red_revert (checked_plan c.args.plan.now) p) past)
