use Rattle.std.proofs.Common.{drop, flat_map}
use Rattle.tsb_plan.specs.PlanOf.{plan_of}
use Rattle.tsb_lines.specs.Seen.{seen}
use Rattle.tsb_review_text.specs.Lines.{review_text}
use Rattle.tsb_review_text.specs.Written.{text_of}
use Rattle.tsb_review_text.specs.declared.review.Remark.TheVariants as remarks
use Rattle.tsb_lines.proofs.StreamLemmas.{Went}
use Rattle.tsb_review_text.proofs.review.write_review.Given as goal

-- what has gone out, and what is left, are all
abbrev pub invariant-loop-advice : goal.invariant-loop-advice
invariant-loop-advice g l = Went (seen g.W.Write.contents l.fn.output) (seen g.W.Write.contents l.output) (review_text (plan_of l.plan)) (flat_map (λ a. text_of (plan_of l.plan) (remarks.Advice a)) (drop l.advice-index l.advice-items))
