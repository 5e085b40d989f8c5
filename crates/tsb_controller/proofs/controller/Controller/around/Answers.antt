use Rattle.std.proofs.Common.{◌∙◌, ap, is_some}
use Rattle.tsb_objects.specs.Checked.{checked_plan}
use Rattle.tsb_controller.specs.Layer.{rows_of}
use Rattle.tsb_controller.proofs.WaitTellLemmas.{around}
use Rattle.tsb_controller.proofs.controller.Controller.around.Goals as goal

pub returns : goal.returns
returns c =
    around c.args.tripped (checked_plan c.args.plan.now) (rows_of c.args.self.now) c.service.result c.is_some.result c.side.result
    c.service.ensures (c.is_some.ensures ∙ ap is_some c.crossing.ensures) c.side.ensures
