use Rattle.tsb_lines.proofs.ShortLemmas.{then}
use Rattle.tsb_review_text.proofs.line.push_listed.Goals as goal

pub returns : goal.returns
returns c = then c.push.ensures.line c.push_number.ensures.line
