use Rattle.tsb_step.specs.Cells.{clock_at}
use Rattle.tsb_controller.proofs.controller.Controller.stage.Goals as goal

pub returns : goal.returns
returns c now b = c.stage.ensures (clock_at now b.trip)
