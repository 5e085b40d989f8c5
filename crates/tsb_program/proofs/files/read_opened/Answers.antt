use Rattle.std.proofs.Common.{rules}
use Rattle.tsb_program.proofs.files.read_opened.Goals as goal

pub returns-clause-blame : goal.returns-clause-blame
returns-clause-blame g c = search rules fits 100
