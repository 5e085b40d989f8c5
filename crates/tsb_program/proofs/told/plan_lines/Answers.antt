use Rattle.std.proofs.Common.{rules}
use Rattle.tsb_program.proofs.told.plan_lines.Goals as goal

pub returns : goal.returns
returns c = search rules fits 100
