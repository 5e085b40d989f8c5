use Rattle.std.proofs.Common.{rules}
use Rattle.tsb_text.proofs.lines.when_line.Goals as goal

pub returns-in_default-clause-line : goal.returns-in_default-clause-line
returns-in_default-clause-line c = search rules fits 100
