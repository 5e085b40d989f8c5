use Rattle.std.proofs.Common.{◌∙◌, ℕ, ◌-◌, ap}
use Rattle.tsb_types.specs.Calendar.{date_after}
use Rattle.tsb_types.specs.declared.clock_time.TheConstants.{FIRST_DAY}
use Rattle.tsb_lines.proofs.ShortLemmas.{said, then}
use Rattle.tsb_review_text.specs.Week.{date_text, weekday_name}
use Rattle.tsb_review_text.proofs.week.push_day.Goals as goal

pub returns : goal.returns
returns c =
    then (said (ap date_text (c.date_of.ensures ∙ ap date_after (c.saturating_sub.ensures ∙ ap (λ (n : ℕ). n - FIRST_DAY) c.day_of-days.ensures.value))) c.push_date.ensures)
    (then c.push.ensures.line (said (c.weekday_name.ensures ∙ ap weekday_name c.day_of-days.ensures.value) c.push-2.ensures.line))
