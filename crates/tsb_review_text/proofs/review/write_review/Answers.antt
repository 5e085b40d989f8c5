use Rattle.tsb_plan.specs.PlanOf.{plan_of}
use Rattle.tsb_review.specs.Advices.{advices}
use Rattle.tsb_lines.specs.Seen.{seen}
use Rattle.tsb_review_text.specs.Written.{text_of}
use Rattle.tsb_review_text.specs.declared.review.Remark.TheVariants as remarks
use Rattle.tsb_review_text.proofs.WriteLemmas.{by-advices, end-list, fail-list, next-list, start-list}
use Rattle.tsb_review_text.proofs.review.write_review.Goals as goal

pub loop-advice-init : goal.loop-advice-init
unfolding advices
loop-advice-init g c = start-list (λ a. text_of (plan_of c.args.plan.now) (remarks.Advice a)) advices (seen g.W.Write.contents c.args.output.now) _ (by-advices (plan_of c.args.plan.now))

pub loop-advice-preserved : goal.loop-advice-preserved
unfolding advices
loop-advice-preserved g c =
    next-list (λ a. text_of (plan_of c.args.plan.now) (remarks.Advice a)) advices _ (seen g.W.Write.contents c.args.output.now) (seen g.W.Write.contents c.loop-advice.output) (seen g.W.Write.contents c.write_remark.new.output) _
    c.loop-advice.advice-index c.loop-advice-test.true c.loop-advice.invariant c.in-Ok.ensures.whole c.in-Ok.ensures.well

pub returns-in-Err : goal.returns-in-Err
unfolding advices
returns-in-Err g c =
    fail-list (λ a. text_of (plan_of c.args.plan.now) (remarks.Advice a)) advices _ (seen g.W.Write.contents c.args.output.now) (seen g.W.Write.contents c.loop-advice.output) (seen g.W.Write.contents c.write_remark.new.output) _
    c.loop-advice.advice-index c.in-Err.fault c.loop-advice-test.true c.loop-advice.invariant c.in-Err.ensures.front c.in-Err.ensures.blame

pub returns : goal.returns
unfolding advices
returns g c =
    end-list (λ a. text_of (plan_of c.args.plan.now) (remarks.Advice a)) advices (seen g.W.Write.contents c.args.output.now) (seen g.W.Write.contents c.loop-advice.output) _
    c.loop-advice.advice-index c.loop-advice-test.false c.loop-advice.invariant
