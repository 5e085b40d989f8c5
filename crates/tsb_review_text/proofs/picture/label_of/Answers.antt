use Rattle.std.proofs.Common.{◌∙◌, ap}
use Rattle.tsb_lines.proofs.ShortLemmas.{all-of}
use Rattle.tsb_review_text.specs.Week.{day_text}
use Rattle.tsb_review_text.proofs.WeekLemmas.{day-fits}
use Rattle.tsb_review_text.proofs.picture.label_of.Goals as goal

pub returns : goal.returns
returns c = all-of c.new-line.ensures (day-fits c.moment_of.result) c.push_day.ensures ∙ ap day_text c.moment_of.ensures.value
