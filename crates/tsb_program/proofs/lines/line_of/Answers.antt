use Rattle.std.proofs.Common.{rules}
use Rattle.tsb_program.proofs.lines.line_of.Goals as goal

pub returns : goal.returns
returns g c = search rules fits 100
