use Rattle.std.proofs.Common.{◌∙◌, Option, ap}
use Rattle.tsb_step.specs.tsb_types.declared.stage.Stage.{Stage}
use Rattle.tsb_controller.specs.Layer.{rows_of}
use Rattle.tsb_controller.specs.StatusPromises.{state_by}
use Rattle.tsb_controller.proofs.StatusSetLemmas.{preempt-told}
use Rattle.tsb_controller.proofs.controller.Controller.preempt_state.Goals as goal

pub returns : goal.returns
returns c now b is_entered =
    c.state_by.ensures
    ∙ ap (λ (k : Option Stage). state_by c.args.entered c.is_spent-spent.result c.is_called-called.result k) c.stage_of-stage.ensures
    ∙ preempt-told (rows_of c.args.self.now) c.args.n c.args.entered c.is_spent-spent.result c.is_called-called.result c.stage.result
    c.is_spent-spent.ensures c.is_called-called.ensures c.stage.ensures now b is_entered
