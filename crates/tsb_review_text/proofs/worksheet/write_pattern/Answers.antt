use Rattle.std.proofs.Common.{◌≡◌, length, flat_map, sym, ap, arith}
use Rattle.tsb_types.specs.Lists.{run_from}
use Rattle.tsb_plan.specs.PlanOf.{plan_of}
use Rattle.tsb_lines.specs.Seen.{seen}
use Rattle.tsb_review_text.specs.Worksheet.{pattern_text, share_text}
use Rattle.tsb_review_text.proofs.WriteLemmas.{end-list, fail-list, next-list, start-list}
use Rattle.tsb_review_text.proofs.worksheet.write_pattern.Goals as goal

pub loop-phase-init : goal.loop-phase-init
unfolding pattern_text
loop-phase-init g c =
    start-list (share_text (plan_of c.args.plan.now) c.args.pattern) c.all-phases.result (seen g.W.Write.contents c.args.output.now) _ (ap (flat_map (share_text (plan_of c.args.plan.now) c.args.pattern)) (sym c.all-phases.ensures))

pub loop-phase-preserved : goal.loop-phase-preserved
unfolding run_from
loop-phase-preserved g c =
    let length-is : length c.all-phases.result ≡ 16 = ap length c.all-phases.ensures in
    next-list (share_text (plan_of c.args.plan.now) c.args.pattern) c.all-phases.result c.phase-item.result (seen g.W.Write.contents c.args.output.now) (seen g.W.Write.contents c.loop-phase.output) (seen g.W.Write.contents c.write_share.new.output) _
    c.loop-phase.phase-index (omega (arith, length-is, c.loop-phase-test.true)) c.loop-phase.invariant c.in-Ok.ensures.whole c.in-Ok.ensures.well

pub returns-in-Err : goal.returns-in-Err
unfolding run_from
returns-in-Err g c =
    let length-is : length c.all-phases.result ≡ 16 = ap length c.all-phases.ensures in
    fail-list (share_text (plan_of c.args.plan.now) c.args.pattern) c.all-phases.result c.phase-item.result (seen g.W.Write.contents c.args.output.now) (seen g.W.Write.contents c.loop-phase.output) (seen g.W.Write.contents c.write_share.new.output) _
    c.loop-phase.phase-index c.in-Err.fault (omega (arith, length-is, c.loop-phase-test.true)) c.loop-phase.invariant c.in-Err.ensures.front c.in-Err.ensures.blame

pub returns : goal.returns
unfolding run_from
returns g c =
    let length-is : length c.all-phases.result ≡ 16 = ap length c.all-phases.ensures in
    end-list (share_text (plan_of c.args.plan.now) c.args.pattern) c.all-phases.result (seen g.W.Write.contents c.args.output.now) (seen g.W.Write.contents c.loop-phase.output) _
    c.loop-phase.phase-index (omega (arith, length-is, c.loop-phase-test.false)) c.loop-phase.invariant
