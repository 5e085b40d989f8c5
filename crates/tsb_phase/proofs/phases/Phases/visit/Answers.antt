use Rattle.std.proofs.Common.{arith}
use Rattle.std.proofs.lemmas.Grind.{common_steps}
use Rattle.tsb_phase.proofs.phases.Phases.visit.Goals as goal

pub returns-then-not-was-clause-visit : goal.returns-then-not-was-clause-visit
returns-then-not-was-clause-visit c = grind (arith, common_steps)
