use Rattle.std.proofs.Common.{◌≡◌, ◌∙◌, ℕ, ◌+◌, flat_map, refl, sym, ap, arith}
use Rattle.tsb_types.specs.Lists.{run_from}
use Rattle.tsb_plan.specs.PlanOf.{plan_of}
use Rattle.tsb_lines.specs.Seen.{seen}
use Rattle.tsb_review.specs.Places.{seconds}
use Rattle.tsb_review_text.specs.Written.{shape_of, text_beside, text_from}
use Rattle.tsb_review_text.proofs.WriteLemmas.{end-run, fail-run, next-run, start-run}
use Rattle.tsb_review_text.proofs.review.write_from.Goals as goal

pub loop-second-init : goal.loop-second-init
unfolding text_from
loop-second-init g c =
    let is : c.seconds-count.result ≡ seconds (shape_of c.args.remark) = c.seconds-count.ensures.value ∙ ap seconds c.shape_of.ensures in
    start-run (text_beside (plan_of c.args.plan.now) c.args.remark c.args.first) (seen g.W.Write.contents c.args.output.now) _ c.seconds-count.result (c.seconds-count.result + 1)
    (ap (λ (n : ℕ). flat_map (text_beside (plan_of c.args.plan.now) c.args.remark c.args.first) (run_from 1 n)) (sym is)) refl

pub loop-second-preserved : goal.loop-second-preserved
loop-second-preserved g c =
    next-run (text_beside (plan_of c.args.plan.now) c.args.remark c.args.first) (seen g.W.Write.contents c.args.output.now) (seen g.W.Write.contents c.loop-second.output) (seen g.W.Write.contents c.write_beside.new.output) _
    c.loop-second.second (c.seconds-count.result + 1) (omega arith) c.loop-second.invariant c.in-Ok.ensures.whole c.in-Ok.ensures.well

pub returns-in-Err : goal.returns-in-Err
returns-in-Err g c =
    fail-run (text_beside (plan_of c.args.plan.now) c.args.remark c.args.first) (seen g.W.Write.contents c.args.output.now) (seen g.W.Write.contents c.loop-second.output) (seen g.W.Write.contents c.write_beside.new.output) _
    c.loop-second.second (c.seconds-count.result + 1) c.in-Err.fault (omega arith) c.loop-second.invariant c.in-Err.ensures.front c.in-Err.ensures.blame

pub returns : goal.returns
returns g c =
    end-run (text_beside (plan_of c.args.plan.now) c.args.remark c.args.first) (seen g.W.Write.contents c.args.output.now) (seen g.W.Write.contents c.loop-second.output) _
    c.loop-second.second (c.seconds-count.result + 1) (omega arith) c.loop-second.invariant
