use Rattle.std.proofs.Common.{rules}
use Rattle.tsb_objects.specs.Checked.{checked_plan}
use Rattle.tsb_plan.specs.PlanOf.{plan_of}
use Rattle.tsb_bench.proofs.cabinet.Cabinet.action.Goals as goal

pub returns-then-has_schedule-clause-value : goal.returns-then-has_schedule-clause-value
unfolding checked_plan plan_of
returns-then-has_schedule-clause-value c = search rules fits 100
