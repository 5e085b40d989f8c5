use Rattle.std.proofs.Common.{rules}
use Rattle.tsb_live_text.proofs.saved.input_line.input_line.Goals as goal

pub returns-in-Omit-clause-line : goal.returns-in-Omit-clause-line
returns-in-Omit-clause-line c = search rules fits 100
