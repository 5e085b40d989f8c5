use Rattle.std.proofs.Common.{arith}
use Rattle.std.proofs.lemmas.Grind.{common_steps}
use Rattle.tsb_controller.proofs.parts.part_of.Goals as goal

pub loop-cell-preserved-then-is_one_of : goal.loop-cell-preserved-then-is_one_of
loop-cell-preserved-then-is_one_of g c = grind (arith, common_steps)
