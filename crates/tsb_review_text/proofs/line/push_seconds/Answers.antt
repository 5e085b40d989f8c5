use Rattle.tsb_lines.proofs.ShortLemmas.{then}
use Rattle.tsb_review_text.proofs.line.push_seconds.Goals as goal

pub returns : goal.returns
returns c = then c.push_number.ensures.line c.push_fraction.ensures
