use Rattle.std.proofs.Common.{rules}
use Rattle.tsb_program.proofs.lines.write_line.Goals as goal

pub returns-in-Ok-clause-whole : goal.returns-in-Ok-clause-whole
returns-in-Ok-clause-whole g c = search rules fits 100
