use Rattle.std.proofs.Common.{◌≡◌, length, flat_map, sym, ap, arith}
use Rattle.tsb_types.specs.Lists.{run_from}
use Rattle.tsb_plan.specs.PlanOf.{plan_of}
use Rattle.tsb_lines.specs.Seen.{seen}
use Rattle.tsb_review_text.specs.Worksheet.{pattern_text, patterns_text}
use Rattle.tsb_review_text.proofs.WriteLemmas.{end-list, fail-list, next-list, start-list}
use Rattle.tsb_review_text.proofs.worksheet.write_patterns.Goals as goal

pub loop-pattern-init : goal.loop-pattern-init
unfolding patterns_text
loop-pattern-init g c =
    start-list (pattern_text (plan_of c.args.plan.now)) c.all-patterns.result (seen g.W.Write.contents c.args.output.now) _ (ap (flat_map (pattern_text (plan_of c.args.plan.now))) (sym c.all-patterns.ensures))

pub loop-pattern-preserved : goal.loop-pattern-preserved
unfolding run_from
loop-pattern-preserved g c =
    let length-is : length c.all-patterns.result ≡ 16 = ap length c.all-patterns.ensures in
    next-list (pattern_text (plan_of c.args.plan.now)) c.all-patterns.result c.pattern-item.result (seen g.W.Write.contents c.args.output.now) (seen g.W.Write.contents c.loop-pattern.output) (seen g.W.Write.contents c.write_pattern.new.output) _
    c.loop-pattern.pattern-index (omega (arith, length-is, c.loop-pattern-test.true)) c.loop-pattern.invariant c.in-Ok.ensures.whole c.in-Ok.ensures.well

pub returns-in-Err : goal.returns-in-Err
unfolding run_from
returns-in-Err g c =
    let length-is : length c.all-patterns.result ≡ 16 = ap length c.all-patterns.ensures in
    fail-list (pattern_text (plan_of c.args.plan.now)) c.all-patterns.result c.pattern-item.result (seen g.W.Write.contents c.args.output.now) (seen g.W.Write.contents c.loop-pattern.output) (seen g.W.Write.contents c.write_pattern.new.output) _
    c.loop-pattern.pattern-index c.in-Err.fault (omega (arith, length-is, c.loop-pattern-test.true)) c.loop-pattern.invariant c.in-Err.ensures.front c.in-Err.ensures.blame

pub returns : goal.returns
unfolding run_from
returns g c =
    let length-is : length c.all-patterns.result ≡ 16 = ap length c.all-patterns.ensures in
    end-list (pattern_text (plan_of c.args.plan.now)) c.all-patterns.result (seen g.W.Write.contents c.args.output.now) (seen g.W.Write.contents c.loop-pattern.output) _
    c.loop-pattern.pattern-index (omega (arith, length-is, c.loop-pattern-test.false)) c.loop-pattern.invariant
