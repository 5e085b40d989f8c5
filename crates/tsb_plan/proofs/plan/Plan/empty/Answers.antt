use Rattle.tsb_plan.specs.PlanOf.{plan_of}
use Rattle.tsb_plan.proofs.PlanLemmas.{zeros-in_range, zeros-empty}
use Rattle.tsb_plan.proofs.plan.Plan.empty.Goals as goal

pub invariant_of-result-clause-ranged : goal.invariant_of-result-clause-ranged
invariant_of-result-clause-ranged c = zeros-in_range c.zeros-values.result c.zeros-values.ensures.zeros

pub returns : goal.returns
unfolding plan_of
returns c = zeros-empty c.zeros-values.result c.zeros-values.ensures.zeros
