use Rattle.tsb_laws.proofs.versions.RunLemmas.{wide_plans, break_the_same_rule}
use Rattle.tsb_laws.proofs.versions.wide_plans_say_the_same.Goals as goal

pub returns-clause-plans : goal.returns-clause-plans
returns-clause-plans c = wide_plans

pub returns-clause-rules : goal.returns-clause-rules
returns-clause-rules c = break_the_same_rule
