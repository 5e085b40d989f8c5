use Rattle.std.proofs.Common.{arith}
use Rattle.std.proofs.lemmas.Grind.{common_steps}
use Rattle.tsb_field_diagram.proofs.week.append_shape.Goals as goal

pub returns : goal.returns
returns c = grind (arith, common_steps)
