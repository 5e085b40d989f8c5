use Rattle.tsb_lines.proofs.ShortLemmas.{then}
use Rattle.tsb_review_text.proofs.line.push_point.Goals as goal

pub returns-clause-line : goal.returns-clause-line
returns-clause-line c = then c.push.ensures.line c.push_number.ensures.line
