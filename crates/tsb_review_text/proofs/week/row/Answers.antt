use Rattle.std.proofs.Common.{ap, ◌∙◌}
use Rattle.tsb_plan.specs.PlanOf.{plan_of}
use Rattle.tsb_plan.specs.Schedule.{selected_by}
use Rattle.tsb_review_text.specs.Week.{day_plan_at, number_text, pattern_text}
use Rattle.tsb_lines.proofs.ShortLemmas.{all-of, said, then}
use Rattle.tsb_review_text.proofs.WeekLemmas.{row-fits}
use Rattle.tsb_review_text.proofs.week.row.Goals as goal

pub returns : goal.returns
returns c =
    let plan = plan_of c.args.plan.now in
    all-of c.new-line.ensures (row-fits plan c.args.moment)
    (then c.push_time.ensures
    (then c.push.ensures.line
    (then (said (ap number_text c.in_force-action.ensures.value) c.push_number.ensures)
    (then (said (ap pattern_text (c.selected_by.ensures ∙ ap (selected_by plan) c.in_force-action.ensures.value)) c.push_pattern.ensures)
    (then c.push-2.ensures.line
    (then (said (ap number_text c.holding_at-entry.ensures.value) c.push_number-2.ensures)
    (then c.push-3.ensures.line
    (then (said (ap number_text (c.day_plan_at.ensures ∙ ap (day_plan_at plan) c.holding_at-entry.ensures.value)) c.push_number-3.ensures)
    c.push-4.ensures.line))))))))
