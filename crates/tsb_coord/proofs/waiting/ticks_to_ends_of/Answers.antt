use Rattle.std.proofs.Common.{arith}
use Rattle.std.proofs.lemmas.Grind.{common_steps}
use Rattle.tsb_coord.proofs.waiting.ticks_to_ends_of.Goals as goal

pub returns-clause-recycled : goal.returns-clause-recycled
returns-clause-recycled c = grind (arith, common_steps)

pub returns-clause-permitted : goal.returns-clause-permitted
returns-clause-permitted c = grind (arith, common_steps)
