use Rattle.std.proofs.Common.{ℕ, ◌∙◌, ap, option_map}
use Rattle.tsb_objects.specs.tsb_types.declared.stage.Stage.{Stage}
use Rattle.tsb_text.proofs.lines.preempt_in_service.Goals as goal

pub returns : goal.returns
returns c = c.preempt_of.ensures ∙ ap (option_map (λ (service : ℕ × Stage). service.0)) c.stage.ensures
