use Rattle.std.proofs.Common.{rules}
use Rattle.tsb_live_text.proofs.saved.input_line.lamp_line.Goals as goal

pub returns-in-Arrow-clause-line : goal.returns-in-Arrow-clause-line
returns-in-Arrow-clause-line c = search rules fits 100
