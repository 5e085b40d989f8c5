use Rattle.std.proofs.Common.{rules}
use Rattle.tsb_review_text.proofs.line.push_value_name.Goals as goal

pub returns-in-Some-clause-line : goal.returns-in-Some-clause-line
returns-in-Some-clause-line c = search rules fits 100

pub returns-in-Some-clause-short : goal.returns-in-Some-clause-short
returns-in-Some-clause-short c = search rules fits 100
