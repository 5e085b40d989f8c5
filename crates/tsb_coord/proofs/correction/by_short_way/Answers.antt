use Rattle.std.proofs.Common.{arith}
use Rattle.std.proofs.lemmas.Grind.{common_steps}
use Rattle.tsb_coord.proofs.correction.by_short_way.Goals as goal

pub returns-then-ahead-cycle-clause-value : goal.returns-then-ahead-cycle-clause-value
returns-then-ahead-cycle-clause-value c = grind (arith, common_steps)

pub returns-clause-value : goal.returns-clause-value
returns-clause-value c = grind (arith, common_steps)
