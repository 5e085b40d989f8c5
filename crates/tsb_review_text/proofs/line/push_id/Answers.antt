use Rattle.tsb_lines.proofs.ShortLemmas.{then}
use Rattle.tsb_review_text.proofs.LineLemmas.{short-name}
use Rattle.tsb_review_text.proofs.line.push_id.Goals as goal

pub returns-clause-line : goal.returns-clause-line
returns-clause-line c = then (then c.push.ensures.line c.push_name.ensures) c.push_point.ensures.line

pub returns-clause-short : goal.returns-clause-short
returns-clause-short c = short-name c.args.id.object c.args.id.index c.push_point.ensures.short
