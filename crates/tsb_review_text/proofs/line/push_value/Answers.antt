use Rattle.tsb_lines.proofs.ShortLemmas.{then}
use Rattle.tsb_review_text.proofs.LineLemmas.{short-value}
use Rattle.tsb_review_text.proofs.line.push_value.Goals as goal

pub returns-clause-line : goal.returns-clause-line
returns-clause-line c = then c.push_id.ensures.line c.push_table_name.ensures.line

pub returns-clause-short : goal.returns-clause-short
returns-clause-short c = short-value c.args.id c.push_id.ensures.short c.push_table_name.ensures.short
