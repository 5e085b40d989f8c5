use Rattle.std.proofs.Common.{arith}
use Rattle.std.proofs.lemmas.Grind.{common_steps}
use Rattle.tsb_coord.proofs.asked.forced.Goals as goal

pub returns-then-ahead-before : goal.returns-then-ahead-before
returns-then-ahead-before c = grind (arith, common_steps)

pub returns : goal.returns
returns c = grind (arith, common_steps)
