use Rattle.std.proofs.Common.{rules}
use Rattle.tsb_plan.specs.PlanOf.{plan_of}
use Rattle.tsb_objects.proofs.pattern_tables.late_until.Goals as goal

pub returns-then-end-at-clause-value : goal.returns-then-end-at-clause-value
unfolding plan_of
returns-then-end-at-clause-value c = search rules fits 100
