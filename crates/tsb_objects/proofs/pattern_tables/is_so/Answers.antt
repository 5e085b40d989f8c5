use Rattle.std.proofs.Common.{rules}
use Rattle.tsb_plan.specs.PlanOf.{plan_of}
use Rattle.tsb_objects.proofs.pattern_tables.is_so.Goals as goal

pub returns-in-MinimumRecall : goal.returns-in-MinimumRecall
unfolding plan_of
returns-in-MinimumRecall c = search rules fits 100
