use Rattle.std.proofs.Common.{arith}
use Rattle.std.proofs.lemmas.Grind.{common_steps}
use Rattle.tsb_coord.proofs.asked.asked_in.Goals as goal

pub returns-clause-recycle : goal.returns-clause-recycle
returns-clause-recycle c = grind (arith, common_steps)
