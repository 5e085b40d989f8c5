use Rattle.tsb_objects.specs.Checked.{checked_plan}
use Rattle.tsb_controller.specs.Layer.{rows_of}
use Rattle.tsb_controller.proofs.PlacedLemmas.{placed}
use Rattle.tsb_controller.proofs.WatchLemmas.{displayed}
use Rattle.tsb_controller.proofs.controller.Controller.display.Goals as goal

pub returns : goal.returns
returns c = displayed (checked_plan c.args.plan.now) c.args.tripped (rows_of c.args.self.now) c.heads.result (placed c.args.plan.now).count c.heads.ensures.shown
