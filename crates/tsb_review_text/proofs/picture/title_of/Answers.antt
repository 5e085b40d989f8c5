use Rattle.std.proofs.Common.{ap}
use Rattle.tsb_lines.proofs.ShortLemmas.{all-of, said, then}
use Rattle.tsb_review_text.specs.Week.{day_text}
use Rattle.tsb_review_text.proofs.WeekLemmas.{title-fits}
use Rattle.tsb_review_text.proofs.picture.title_of.Goals as goal

pub returns : goal.returns
returns c = all-of c.new-line.ensures (title-fits c.args.first) (then c.push.ensures.line (said (ap day_text c.moment_of.ensures.value) c.push_day.ensures))
