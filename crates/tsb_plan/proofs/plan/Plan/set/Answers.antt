use Rattle.tsb_plan.specs.PlanOf.{plan_of}
use Rattle.tsb_plan.proofs.PlanLemmas.{plan-put, in_range-put}
use Rattle.tsb_plan.proofs.plan.Plan.set.Goals as goal

pub invariant_of-self-clause-ranged : goal.invariant_of-self-clause-ranged
invariant_of-self-clause-ranged c =
    in_range-put c.args.self.now.values c.args.object c.args.index c.args.value c.cell.result c.cell.ensures.at c.args.self.now.full
    c.requires.index c.requires.value c.args.self.now.ranged

pub returns : goal.returns
unfolding plan_of
returns c =
    plan-put c.args.self.now.values c.args.object c.args.index c.args.value c.cell.result c.cell.ensures.at c.args.self.now.full c.requires.index
