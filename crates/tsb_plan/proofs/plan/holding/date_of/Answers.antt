use Rattle.std.proofs.Common.{rules}
use Rattle.tsb_plan.specs.PlanOf.{plan_of}
use Rattle.tsb_plan.proofs.plan.holding.date_of.Goals as goal

pub returns-clause-date : goal.returns-clause-date
unfolding plan_of
returns-clause-date c = search rules fits 100
