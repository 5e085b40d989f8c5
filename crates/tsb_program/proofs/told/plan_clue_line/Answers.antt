use Rattle.std.proofs.Common.{rules}
use Rattle.tsb_program.proofs.told.plan_clue_line.Goals as goal

pub returns-in-Some-Place : goal.returns-in-Some-Place
returns-in-Some-Place c = search rules fits 100
