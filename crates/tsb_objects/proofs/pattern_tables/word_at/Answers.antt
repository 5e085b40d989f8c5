use Rattle.std.proofs.Common.{rules}
use Rattle.tsb_plan.specs.PlanOf.{plan_of}
use Rattle.tsb_objects.proofs.pattern_tables.word_at.Goals as goal

pub returns : goal.returns
unfolding plan_of
returns c = search rules fits 100
