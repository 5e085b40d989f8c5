use Rattle.std.proofs.Common.{arith}
use Rattle.std.proofs.lemmas.Grind.{common_steps}
use Rattle.tsb_cells.proofs.lists.put_detectors.Goals as goal

pub returns-clause-told : goal.returns-clause-told
returns-clause-told g c = grind (arith, common_steps)
