use Rattle.tsb_lines.proofs.ShortLemmas.{then}
use Rattle.tsb_review_text.proofs.week.push_minute.Goals as goal

pub returns : goal.returns
returns c = then c.push_two.ensures (then c.push.ensures.line c.push_two-2.ensures)
