use Rattle.std.proofs.Common.{arith}
use Rattle.std.proofs.lemmas.Grind.{common_steps}
use Rattle.tsb_controller.proofs.parts.touches.Goals as goal

pub returns-then-is_one_of-clause-untouched : goal.returns-then-is_one_of-clause-untouched
returns-then-is_one_of-clause-untouched c = grind (arith, common_steps)
