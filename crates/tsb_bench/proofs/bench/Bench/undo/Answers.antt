use Rattle.std.proofs.Common.{rules}
use Rattle.tsb_objects.specs.Checked.{checked_plan}
use Rattle.tsb_plan.specs.PlanOf.{plan_of}
use Rattle.tsb_bench.proofs.bench.Bench.undo.Goals as goal

pub returns-then-is_empty-clause-nothing : goal.returns-then-is_empty-clause-nothing
unfolding checked_plan plan_of
returns-then-is_empty-clause-nothing c = search rules fits 100
