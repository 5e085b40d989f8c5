use Rattle.tsb_objects.specs.tsb_plan.PlanOf.{plan_of}
use Rattle.tsb_objects.specs.tsb_plan.Parts.{is_dwell_phase}
use Rattle.tsb_preempt.proofs.GreenLemmas.{all_green-told, count}
use Rattle.tsb_preempt.proofs.serving.is_dwell_green.Goals as goal

pub returns : goal.returns
returns c =
    all_green-told (plan_of c.args.plan.now) c.args.intervals.now (is_dwell_phase (plan_of c.args.plan.now) c.args.n) c.dwell_phases.result c.has_all.result
    (count c.args.plan.now) c.dwell_phases.ensures c.has_all.ensures.yes c.has_all.ensures.no
