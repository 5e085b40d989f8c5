use Rattle.std.proofs.Common.{◌∙◌, ap}
use Rattle.tsb_objects.specs.tsb_plan.Plan.{Plan}
use Rattle.tsb_objects.specs.Checked.{checked_plan}
use Rattle.tsb_phase.specs.Green.{initial}
use Rattle.tsb_phase.proofs.phases.Phases.initial.Goals as goal

pub returns : goal.returns
returns c =
    c.initial.ensures ∙ ap (λ (q : Plan). initial q c.args.p c.from.result) c.plan.ensures.plan
    ∙ ap (initial (checked_plan c.args.plan.now) c.args.p) c.from.ensures
