use Rattle.std.proofs.Common.{rules}
use Rattle.tsb_plan.specs.PlanOf.{plan_of}
use Rattle.tsb_rules.proofs.rules.patterns.pattern_is_coordinated.Goals as goal

pub returns-in-Some-Some : goal.returns-in-Some-Some
unfolding plan_of
returns-in-Some-Some c = search rules fits 100
