use Rattle.std.proofs.Common.{ℕ, Option, is_some, ap, ◌∙◌}
use Rattle.tsb_step.specs.tsb_types.declared.stage.Stage.{Stage}
use Rattle.tsb_preempt.specs.Cells.{preempts_in}
use Rattle.tsb_preempt.specs.Layer.{cells_of}
use Rattle.tsb_step.specs.Cells.{clock_at}
use Rattle.tsb_controller.proofs.ReaderLemmas.{staged}
use Rattle.tsb_controller.proofs.controller.Controller.is_preempted.Goals as goal

pub returns : goal.returns
returns c now b =
    c.is_some.ensures
    ∙ ap (λ (o : Option (ℕ × Stage)). is_some o) (c.stage.ensures (clock_at now b.trip))
    ∙ staged (preempts_in (clock_at now b.trip) (cells_of c.args.self.now.preempts)).service
