use Rattle.std.proofs.Common.{flat_map}
use Rattle.tsb_plan.specs.PlanOf.{plan_of}
use Rattle.tsb_types.specs.Lists.{run_from}
use Rattle.tsb_lines.specs.Seen.{seen}
use Rattle.tsb_review_text.specs.Week.{head, row_of}
use Rattle.tsb_review_text.proofs.WeekLemmas.{wrote-behind, wrote-part}
use Rattle.tsb_review_text.proofs.week.write_week.Goals as goal

pub returns-in-Ok : goal.returns-in-Ok
returns-in-Ok g c =
    wrote-behind c.write_rows.result (seen g.W.Write.contents c.args.output.now) (seen g.W.Write.contents c.write_text.new.self) (seen g.W.Write.contents c.write_rows.new.output)
    head (flat_map (row_of (plan_of c.args.plan.now) c.args.first) (run_from 0 10080)) c.in-Ok.ensures.whole c.in-Ok.ensures.well c.write_rows.ensures

pub returns-in-Err : goal.returns-in-Err
returns-in-Err g c =
    wrote-part c.in-Err.fault (seen g.W.Write.contents c.args.output.now) (seen g.W.Write.contents c.write_text.new.self)
    head (flat_map (row_of (plan_of c.args.plan.now) c.args.first) (run_from 0 10080)) c.in-Err.ensures.front c.in-Err.ensures.blame
