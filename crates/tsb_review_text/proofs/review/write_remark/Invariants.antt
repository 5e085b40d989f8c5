use Rattle.std.proofs.Common.{◌+◌, ◌-◌, flat_map}
use Rattle.tsb_types.specs.Lists.{run_from}
use Rattle.tsb_plan.specs.PlanOf.{plan_of}
use Rattle.tsb_lines.specs.Seen.{seen}
use Rattle.tsb_review_text.specs.Written.{text_from, text_of}
use Rattle.tsb_lines.proofs.StreamLemmas.{Went}
use Rattle.tsb_review_text.proofs.review.write_remark.Given as goal

-- what has gone out, and what is left, are all
abbrev pub invariant-loop-first : goal.invariant-loop-first
invariant-loop-first g l = Went (seen g.W.Write.contents l.fn.output) (seen g.W.Write.contents l.output) (text_of (plan_of l.plan) l.remark) (flat_map (text_from (plan_of l.plan) l.remark) (run_from l.first (l.count + 1 - l.first)))
