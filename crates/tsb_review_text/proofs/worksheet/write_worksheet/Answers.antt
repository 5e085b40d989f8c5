use Rattle.tsb_plan.specs.PlanOf.{plan_of}
use Rattle.tsb_lines.specs.Seen.{seen}
use Rattle.tsb_review_text.specs.Worksheet.{patterns_text, preempts_text, worksheet_text}
use Rattle.tsb_review_text.proofs.WeekLemmas.{wrote-behind, wrote-part}
use Rattle.tsb_review_text.proofs.worksheet.write_worksheet.Goals as goal

pub returns-in-Ok : goal.returns-in-Ok
unfolding worksheet_text
returns-in-Ok g c =
    wrote-behind c.write_patterns.result (seen g.W.Write.contents c.args.output.now) (seen g.W.Write.contents c.write_preempts.new.output) (seen g.W.Write.contents c.write_patterns.new.output)
    (preempts_text (plan_of c.args.plan.now)) (patterns_text (plan_of c.args.plan.now)) c.in-Ok.ensures.whole c.in-Ok.ensures.well c.write_patterns.ensures

pub returns-in-Err : goal.returns-in-Err
unfolding worksheet_text
returns-in-Err g c =
    wrote-part c.in-Err.fault (seen g.W.Write.contents c.args.output.now) (seen g.W.Write.contents c.write_preempts.new.output)
    (preempts_text (plan_of c.args.plan.now)) (patterns_text (plan_of c.args.plan.now)) c.in-Err.ensures.front c.in-Err.ensures.blame
