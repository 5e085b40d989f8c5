use Rattle.std.proofs.Common.{rules}
use Rattle.tsb_objects.specs.Checked.{checked_plan}
use Rattle.tsb_plan.specs.PlanOf.{plan_of}
use Rattle.tsb_bench.proofs.bench.Bench.back.Goals as goal

pub returns-then-self-ticks-clause-nothing : goal.returns-then-self-ticks-clause-nothing
unfolding checked_plan plan_of
returns-then-self-ticks-clause-nothing c = search rules fits 100
