use Rattle.std.proofs.Common.{◌≡◌, length, flat_map, sym, ap, arith}
use Rattle.tsb_types.specs.declared.limits.TheConstants.{PREEMPTS}
use Rattle.tsb_types.specs.Lists.{run_from}
use Rattle.tsb_plan.specs.PlanOf.{plan_of}
use Rattle.tsb_lines.specs.Seen.{seen}
use Rattle.tsb_review_text.specs.Worksheet.{preempt_text, preempts_text}
use Rattle.tsb_review_text.proofs.WriteLemmas.{end-list, fail-list, next-list, start-list}
use Rattle.tsb_review_text.proofs.worksheet.write_preempts.Goals as goal

pub loop-preempt-init : goal.loop-preempt-init
unfolding preempts_text plan_of
loop-preempt-init g c =
    start-list (preempt_text (plan_of c.args.plan.now)) c.all-preempts.result (seen g.W.Write.contents c.args.output.now) _ (ap (flat_map (preempt_text (plan_of c.args.plan.now))) (sym c.all-preempts.ensures))

pub loop-preempt-preserved : goal.loop-preempt-preserved
unfolding run_from
loop-preempt-preserved g c =
    let length-is : length c.all-preempts.result ≡ PREEMPTS = ap length c.all-preempts.ensures in
    next-list (preempt_text (plan_of c.args.plan.now)) c.all-preempts.result c.preempt-item.result (seen g.W.Write.contents c.args.output.now) (seen g.W.Write.contents c.loop-preempt.output) (seen g.W.Write.contents c.write_preempt.new.output) _
    c.loop-preempt.preempt-index (omega (arith, length-is, c.loop-preempt-test.true)) c.loop-preempt.invariant c.in-Ok.ensures.whole c.in-Ok.ensures.well

pub returns-in-Err : goal.returns-in-Err
unfolding run_from
returns-in-Err g c =
    let length-is : length c.all-preempts.result ≡ PREEMPTS = ap length c.all-preempts.ensures in
    fail-list (preempt_text (plan_of c.args.plan.now)) c.all-preempts.result c.preempt-item.result (seen g.W.Write.contents c.args.output.now) (seen g.W.Write.contents c.loop-preempt.output) (seen g.W.Write.contents c.write_preempt.new.output) _
    c.loop-preempt.preempt-index c.in-Err.fault (omega (arith, length-is, c.loop-preempt-test.true)) c.loop-preempt.invariant c.in-Err.ensures.front c.in-Err.ensures.blame

pub returns : goal.returns
unfolding run_from
returns g c =
    let length-is : length c.all-preempts.result ≡ PREEMPTS = ap length c.all-preempts.ensures in
    end-list (preempt_text (plan_of c.args.plan.now)) c.all-preempts.result (seen g.W.Write.contents c.args.output.now) (seen g.W.Write.contents c.loop-preempt.output) _
    c.loop-preempt.preempt-index (omega (arith, length-is, c.loop-preempt-test.false)) c.loop-preempt.invariant
