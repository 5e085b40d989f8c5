use Rattle.std.proofs.Common.{arith}
use Rattle.std.proofs.lemmas.Grind.{common_steps}
use Rattle.tsb_controller.proofs.controller.Controller.close_onto.Goals as goal

pub returns-clause-changes : goal.returns-clause-changes
returns-clause-changes g c = grind (arith, common_steps)
