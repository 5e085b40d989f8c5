use Rattle.std.proofs.Common.{arith}
use Rattle.std.proofs.lemmas.Grind.{common_steps}
use Rattle.tsb_command_text.proofs.clock.read.read_time.Goals as goal

pub returns-then-tenth-lt10-clause-value : goal.returns-then-tenth-lt10-clause-value
returns-then-tenth-lt10-clause-value c = grind (arith, common_steps)
