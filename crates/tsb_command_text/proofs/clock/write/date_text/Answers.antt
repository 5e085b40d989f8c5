use Rattle.std.proofs.Common.{arith}
use Rattle.std.proofs.lemmas.Grind.{common_steps}
use Rattle.tsb_command_text.proofs.clock.write.date_text.Goals as goal

pub returns : goal.returns
returns c = grind (arith, common_steps)
