use Rattle.tsb_lines.proofs.ShortLemmas.{then}
use Rattle.tsb_review_text.proofs.week.push_date.Goals as goal

pub returns : goal.returns
returns c = then c.push_two.ensures (then c.push_two-2.ensures (then c.push.ensures.line (then c.push_two-3.ensures (then c.push-2.ensures.line c.push_two-4.ensures))))
