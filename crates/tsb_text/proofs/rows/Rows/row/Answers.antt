use Rattle.std.proofs.Common.{rules}
use Rattle.tsb_text.proofs.rows.Rows.row.Goals as goal

pub returns-in-OfLog-clause-row : goal.returns-in-OfLog-clause-row
returns-in-OfLog-clause-row c = search rules fits 100
