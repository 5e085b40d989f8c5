use Rattle.std.proofs.Common.{rules}
use Rattle.tsb_plan.specs.PlanOf.{plan_of}
use Rattle.tsb_rules.specs.PatternRules.{split_end}
use Rattle.tsb_rules.proofs.rules.splits.split_end.Goals as goal

pub returns : goal.returns
unfolding plan_of split_end
returns c = search rules fits 100
