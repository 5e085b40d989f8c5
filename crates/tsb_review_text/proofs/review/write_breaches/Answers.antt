use Rattle.tsb_plan.specs.PlanOf.{plan_of}
use Rattle.tsb_lines.specs.Seen.{seen}
use Rattle.tsb_breaches.specs.Breaches.{faults}
use Rattle.tsb_review_text.specs.Written.{text_of}
use Rattle.tsb_review_text.specs.declared.review.Remark.TheVariants as remarks
use Rattle.tsb_review_text.proofs.WriteLemmas.{by-faults, end-list, fail-list, next-list, start-list}
use Rattle.tsb_review_text.proofs.review.write_breaches.Goals as goal

pub loop-fault-init : goal.loop-fault-init
unfolding faults
loop-fault-init g c = start-list (λ f. text_of (plan_of c.args.plan.now) (remarks.Breach f)) faults (seen g.W.Write.contents c.args.output.now) _ (by-faults (plan_of c.args.plan.now))

pub loop-fault-preserved : goal.loop-fault-preserved
unfolding faults
loop-fault-preserved g c =
    next-list (λ f. text_of (plan_of c.args.plan.now) (remarks.Breach f)) faults _ (seen g.W.Write.contents c.args.output.now) (seen g.W.Write.contents c.loop-fault.output) (seen g.W.Write.contents c.write_remark.new.output) _
    c.loop-fault.fault-index c.loop-fault-test.true c.loop-fault.invariant c.in-Ok.ensures.whole c.in-Ok.ensures.well

pub returns-in-Err : goal.returns-in-Err
unfolding faults
returns-in-Err g c =
    fail-list (λ f. text_of (plan_of c.args.plan.now) (remarks.Breach f)) faults _ (seen g.W.Write.contents c.args.output.now) (seen g.W.Write.contents c.loop-fault.output) (seen g.W.Write.contents c.write_remark.new.output) _
    c.loop-fault.fault-index c.in-Err.fault c.loop-fault-test.true c.loop-fault.invariant c.in-Err.ensures.front c.in-Err.ensures.blame

pub returns : goal.returns
unfolding faults
returns g c =
    end-list (λ f. text_of (plan_of c.args.plan.now) (remarks.Breach f)) faults (seen g.W.Write.contents c.args.output.now) (seen g.W.Write.contents c.loop-fault.output) _
    c.loop-fault.fault-index c.loop-fault-test.false c.loop-fault.invariant
