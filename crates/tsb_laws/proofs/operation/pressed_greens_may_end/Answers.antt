use Rattle.tsb_laws.proofs.operation.green.PressedRunLemmas.{pressed_may_end}
use Rattle.tsb_laws.proofs.operation.pressed_greens_may_end.Goals as goal

pub returns : goal.returns
returns c = pressed_may_end
