use Rattle.std.proofs.Common.{◌∙◌, ap, sym}
use Rattle.tsb_step.specs.tsb_types.Flow.{interval_of}
use Rattle.tsb_step.specs.tsb_plan.Plan.{Plan}
use Rattle.tsb_preempt.specs.Service.{stage_phases}
use Rattle.tsb_step.specs.Events.{stage_is_green}
use Rattle.tsb_objects.specs.Checked.{checked_plan}
use Rattle.tsb_controller.proofs.SeenLemmas.{at-least-16}
use Rattle.tsb_controller.proofs.seen.stage_is_green.Goals as goal

pub returns-in-Some : goal.returns-in-Some
returns-in-Some c =
    c.are_green.ensures (checked_plan c.args.plan.now) (stage_phases (checked_plan c.args.plan.now) c.in-Some.served.0 c.in-Some.served.1)
    (at-least-16 c.args.plan.now)
    (λ p. c.stage_phases.ensures p ∙ ap (λ (plan : Plan). stage_phases plan c.in-Some.served.0 c.in-Some.served.1 p) c.plan.ensures.plan)
    ∙ ap (stage_is_green (checked_plan c.args.plan.now) (interval_of c.args.intervals.now)) (sym c.in-Some.is)
