use Rattle.std.proofs.Common.{◌∙◌, sym, ap}
use Rattle.tsb_step.specs.tsb_plan.Plan.{Plan, time_before_reduction}
use Rattle.tsb_objects.specs.Checked.{checked_plan}
use Rattle.tsb_status.proofs.TimesLemmas.{reduction-rests}
use Rattle.tsb_status.proofs.times.reduction.Goals as goal

pub returns-else-has_reached : goal.returns-else-has_reached
returns-else-has_reached c =
    reduction-rests (checked_plan c.args.plan.now) c.args.found.now c.args.x.now c.args.p c.time_before_reduction.result
    (sym c.is_on.ensures ∙ c.if-not-is_on.false) c.in-Off.is
    (c.time_before_reduction.ensures ∙ ap (λ (y : Plan). time_before_reduction y c.args.p) c.plan.ensures.plan)
    (sym c.has_reached.ensures ∙ c.if-has_reached.false)
