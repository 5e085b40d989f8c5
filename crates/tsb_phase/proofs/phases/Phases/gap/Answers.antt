use Rattle.std.proofs.Common.{◌∙◌, ap}
use Rattle.tsb_objects.specs.tsb_plan.Plan.{Plan}
use Rattle.tsb_objects.specs.Checked.{checked_plan}
use Rattle.tsb_phase.specs.Green.{gap}
use Rattle.tsb_phase.proofs.phases.Phases.gap.Goals as goal

pub returns : goal.returns
returns c =
    c.gap.ensures ∙ ap (λ (q : Plan). gap q c.args.p c.timer_of.result) c.plan.ensures.plan
    ∙ ap (gap (checked_plan c.args.plan.now) c.args.p) c.timer_of.ensures
