use Rattle.std.proofs.Common.{◌+◌, ◌-◌, flat_map}
use Rattle.tsb_types.specs.Lists.{run_from}
use Rattle.tsb_plan.specs.PlanOf.{plan_of}
use Rattle.tsb_lines.specs.Seen.{seen}
use Rattle.tsb_review_text.specs.Written.{text_at, text_beside}
use Rattle.tsb_lines.proofs.StreamLemmas.{Went}
use Rattle.tsb_review_text.proofs.review.write_beside.Given as goal

-- what has gone out, and what is left, are all
abbrev pub invariant-loop-third : goal.invariant-loop-third
invariant-loop-third g l = Went (seen g.W.Write.contents l.fn.output) (seen g.W.Write.contents l.output) (text_beside (plan_of l.plan) l.remark l.first l.second) (flat_map (text_at (plan_of l.plan) l.remark l.first l.second) (run_from l.third (l.count + 1 - l.third)))
