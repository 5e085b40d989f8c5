use Rattle.std.proofs.Common.{rules}
use Rattle.tsb_plan.specs.PlanOf.{plan_of}
use Rattle.tsb_rules.proofs.rules.lists.trails_rightly.Goals as goal

pub returns-then-yellow-ne0 : goal.returns-then-yellow-ne0
unfolding plan_of
returns-then-yellow-ne0 c = search rules fits 100

pub returns-then-of_overlap-eq0 : goal.returns-then-of_overlap-eq0
unfolding plan_of
returns-then-of_overlap-eq0 c = search rules fits 100
