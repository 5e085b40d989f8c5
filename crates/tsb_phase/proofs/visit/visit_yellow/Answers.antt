use Rattle.std.proofs.Common.{arith}
use Rattle.std.proofs.lemmas.Grind.{common_steps}
use Rattle.tsb_phase.specs.Ready.{is_ready, is_over, red_revert_passed}
use Rattle.tsb_phase.proofs.visit.visit_yellow.Goals as goal

pub returns-then-has_reached-clause-visit : goal.returns-then-has_reached-clause-visit
unfolding is_ready is_over red_revert_passed
returns-then-has_reached-clause-visit c = grind (arith, common_steps)
