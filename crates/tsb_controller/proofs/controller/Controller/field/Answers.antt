use Rattle.tsb_objects.specs.Checked.{checked_plan}
use Rattle.tsb_controller.specs.Layer.{rows_of}
use Rattle.tsb_controller.proofs.PlacedLemmas.{placed}
use Rattle.tsb_controller.proofs.WatchLemmas.{fielded}
use Rattle.tsb_controller.proofs.controller.Controller.field.Goals as goal

pub returns : goal.returns
returns c = fielded (checked_plan c.args.plan.now) c.args.lamp.now (rows_of c.args.self.now) c.heads.result c.new.result (placed c.args.plan.now).count c.heads.ensures.shown c.new.ensures.heads
