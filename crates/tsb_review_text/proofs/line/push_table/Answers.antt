use Rattle.tsb_lines.proofs.ShortLemmas.{then}
use Rattle.tsb_review_text.proofs.LineLemmas.{short-table}
use Rattle.tsb_review_text.proofs.line.push_table.Goals as goal

pub returns-clause-line : goal.returns-clause-line
returns-clause-line c = then c.push.ensures.line c.push_number.ensures.line

pub returns-clause-short : goal.returns-clause-short
returns-clause-short c = short-table c.args.table c.push_number.ensures.short
