use Rattle.std.proofs.Common.{rules}
use Rattle.tsb_plan.specs.PlanOf.{plan_of}
use Rattle.tsb_breaches.proofs.numbers.of_pattern_phases.Goals as goal

pub returns-in-K20Ends : goal.returns-in-K20Ends
unfolding plan_of
returns-in-K20Ends c = search rules fits 100
