use Rattle.std.proofs.Common.{rules}
use Rattle.tsb_plan.specs.PlanOf.{plan_of}
use Rattle.tsb_objects.proofs.pattern_tables.list_so.Goals as goal

pub returns-then-has_split : goal.returns-then-has_split
unfolding plan_of
returns-then-has_split c = search rules fits 100
