use Rattle.tsb_plan.specs.Parts.{cycle}
use Rattle.tsb_plan.specs.Plan.{yellow_change, red_clear}
use Rattle.tsb_plan.specs.PlanOf.{plan_of}
use Rattle.tsb_objects.specs.Instants.{end_of}
use Rattle.tsb_review.proofs.splits.instant_from.Goals as goal
use Rattle.tsb_objects.proofs.InstantLemmas.{from_residues}

pub returns : goal.returns
returns c =
    rw (c.end_of.ensures, c.end_of-2.ensures, c.clearance.ensures.value, c.cycle_of-cycle.ensures.value)
    (from_residues (cycle (plan_of c.args.plan.now) c.args.pattern) (end_of (plan_of c.args.plan.now) c.args.pattern c.args.next) (end_of (plan_of c.args.plan.now) c.args.pattern c.args.phase)
    (yellow_change (plan_of c.args.plan.now) c.args.next) (red_clear (plan_of c.args.plan.now) c.args.next))
