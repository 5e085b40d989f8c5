use Rattle.std.proofs.Common.{arith}
use Rattle.tsb_plan.specs.PlanOf.{plan_of}
use Rattle.tsb_lines.specs.Seen.{seen}
use Rattle.tsb_review_text.specs.Week.{row_of}
use Rattle.tsb_review_text.proofs.WeekLemmas.{start-week}
use Rattle.tsb_review_text.proofs.WriteLemmas.{end-run, fail-run, next-run}
use Rattle.tsb_review_text.proofs.week.write_rows.Goals as goal

pub loop-minute-init : goal.loop-minute-init
loop-minute-init g c = start-week (row_of (plan_of c.args.plan.now) c.args.first) (seen g.W.Write.contents c.args.output.now) 10080

pub loop-minute-preserved : goal.loop-minute-preserved
loop-minute-preserved g c =
    next-run (row_of (plan_of c.args.plan.now) c.args.first) (seen g.W.Write.contents c.args.output.now) (seen g.W.Write.contents c.loop-minute.output) (seen g.W.Write.contents c.write_row.new.output) _
    c.loop-minute.minute 10080 (omega arith) c.loop-minute.invariant c.in-Ok.ensures.whole c.in-Ok.ensures.well

pub returns-in-Err : goal.returns-in-Err
returns-in-Err g c =
    fail-run (row_of (plan_of c.args.plan.now) c.args.first) (seen g.W.Write.contents c.args.output.now) (seen g.W.Write.contents c.loop-minute.output) (seen g.W.Write.contents c.write_row.new.output) _
    c.loop-minute.minute 10080 c.in-Err.fault (omega arith) c.loop-minute.invariant c.in-Err.ensures.front c.in-Err.ensures.blame

pub returns : goal.returns
returns g c =
    end-run (row_of (plan_of c.args.plan.now) c.args.first) (seen g.W.Write.contents c.args.output.now) (seen g.W.Write.contents c.loop-minute.output) _
    c.loop-minute.minute 10080 (omega arith) c.loop-minute.invariant
