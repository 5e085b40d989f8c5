use Rattle.std.proofs.Common.{rules}
use Rattle.tsb_plan_text.specs.PlanText.{reading, checked}
use Rattle.tsb_plan_text.proofs.read.read_short.Goals as goal

pub known-requires : goal.known-requires
unfolding reading checked
known-requires c = search rules fits 100

pub returns-clause-reads : goal.returns-clause-reads
unfolding reading checked
returns-clause-reads c = search rules fits 100
