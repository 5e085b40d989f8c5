use Rattle.std.proofs.Common.{◌≡◌, ◌∙◌, ℕ, ◌+◌, flat_map, refl, sym, ap, arith}
use Rattle.tsb_types.specs.Lists.{run_from}
use Rattle.tsb_plan.specs.PlanOf.{plan_of}
use Rattle.tsb_lines.specs.Seen.{seen}
use Rattle.tsb_review.specs.Places.{firsts}
use Rattle.tsb_review_text.specs.Written.{shape_of, text_from, text_of}
use Rattle.tsb_review_text.proofs.WriteLemmas.{end-run, fail-run, next-run, start-run}
use Rattle.tsb_review_text.proofs.review.write_remark.Goals as goal

pub loop-first-init : goal.loop-first-init
unfolding text_of
loop-first-init g c =
    let is : c.firsts-count.result ≡ firsts (shape_of c.args.remark) = c.firsts-count.ensures.value ∙ ap firsts c.shape_of.ensures in
    start-run (text_from (plan_of c.args.plan.now) c.args.remark) (seen g.W.Write.contents c.args.output.now) _ c.firsts-count.result (c.firsts-count.result + 1)
    (ap (λ (n : ℕ). flat_map (text_from (plan_of c.args.plan.now) c.args.remark) (run_from 1 n)) (sym is)) refl

pub loop-first-preserved : goal.loop-first-preserved
loop-first-preserved g c =
    next-run (text_from (plan_of c.args.plan.now) c.args.remark) (seen g.W.Write.contents c.args.output.now) (seen g.W.Write.contents c.loop-first.output) (seen g.W.Write.contents c.write_from.new.output) _
    c.loop-first.first (c.firsts-count.result + 1) (omega arith) c.loop-first.invariant c.in-Ok.ensures.whole c.in-Ok.ensures.well

pub returns-in-Err : goal.returns-in-Err
returns-in-Err g c =
    fail-run (text_from (plan_of c.args.plan.now) c.args.remark) (seen g.W.Write.contents c.args.output.now) (seen g.W.Write.contents c.loop-first.output) (seen g.W.Write.contents c.write_from.new.output) _
    c.loop-first.first (c.firsts-count.result + 1) c.in-Err.fault (omega arith) c.loop-first.invariant c.in-Err.ensures.front c.in-Err.ensures.blame

pub returns : goal.returns
returns g c =
    end-run (text_from (plan_of c.args.plan.now) c.args.remark) (seen g.W.Write.contents c.args.output.now) (seen g.W.Write.contents c.loop-first.output) _
    c.loop-first.first (c.firsts-count.result + 1) (omega arith) c.loop-first.invariant
