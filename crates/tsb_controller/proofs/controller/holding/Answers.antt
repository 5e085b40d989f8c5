use Rattle.std.proofs.Common.{refl}
use Rattle.tsb_controller.proofs.controller.holding.Goals as goal

pub returns : goal.returns
returns c = record { over = c.difference.ensures; rest = refl }
