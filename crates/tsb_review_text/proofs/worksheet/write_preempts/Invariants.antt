use Rattle.std.proofs.Common.{drop, flat_map}
use Rattle.tsb_plan.specs.PlanOf.{plan_of}
use Rattle.tsb_lines.specs.Seen.{seen}
use Rattle.tsb_review_text.specs.Worksheet.{preempt_text, preempts_text}
use Rattle.tsb_lines.proofs.StreamLemmas.{Went}
use Rattle.tsb_review_text.proofs.worksheet.write_preempts.Given as goal

-- what has gone out, and what is left, are all
abbrev pub invariant-loop-preempt : goal.invariant-loop-preempt
invariant-loop-preempt g l = Went (seen g.W.Write.contents l.fn.output) (seen g.W.Write.contents l.output) (preempts_text (plan_of l.plan)) (flat_map (preempt_text (plan_of l.plan)) (drop l.preempt-index l.preempt-items))
