use Rattle.std.proofs.Common.{◌+◌, ◌-◌, flat_map}
use Rattle.tsb_types.specs.Lists.{run_from}
use Rattle.tsb_plan.specs.PlanOf.{plan_of}
use Rattle.tsb_lines.specs.Seen.{seen}
use Rattle.tsb_review_text.specs.Written.{text_beside, text_from}
use Rattle.tsb_lines.proofs.StreamLemmas.{Went}
use Rattle.tsb_review_text.proofs.review.write_from.Given as goal

-- what has gone out, and what is left, are all
abbrev pub invariant-loop-second : goal.invariant-loop-second
invariant-loop-second g l = Went (seen g.W.Write.contents l.fn.output) (seen g.W.Write.contents l.output) (text_from (plan_of l.plan) l.remark l.first) (flat_map (text_beside (plan_of l.plan) l.remark l.first) (run_from l.second (l.count + 1 - l.second)))
