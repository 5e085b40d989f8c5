use Rattle.tsb_plan.specs.Parts.{cycle}
use Rattle.tsb_plan.specs.Plan.{yellow_change, red_clear}
use Rattle.tsb_plan.specs.PlanOf.{plan_of}
use Rattle.tsb_objects.specs.Instants.{end_of}
use Rattle.tsb_objects.proofs.InstantLemmas.{from_residues}
use Rattle.tsb_objects.proofs.instants.instant_from.Goals as goal

pub returns-clause-value : goal.returns-clause-value
returns-clause-value c = λ d from.
    rw (c.end_in_cycle-end.ensures.value, from, c.clearance.ensures.value, c.cycle_of-cycle.ensures.value)
    (from_residues (cycle (plan_of c.args.plan.now) c.args.n) (end_of (plan_of c.args.plan.now) c.args.n c.args.p) (end_of (plan_of c.args.plan.now) c.args.n d)
    (yellow_change (plan_of c.args.plan.now) c.args.p) (red_clear (plan_of c.args.plan.now) c.args.p))
