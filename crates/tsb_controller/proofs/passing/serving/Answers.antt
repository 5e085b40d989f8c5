use Rattle.std.proofs.Common.{Bool, not, ◌&&◌, ◌∙◌, ap}
use Rattle.tsb_step.specs.tsb_types.Sets.{has}
use Rattle.tsb_step.proofs.tsb_types.SetLemmas.{names-all}
use Rattle.tsb_controller.proofs.passing.serving.Goals as goal

pub returns-clause-must_end : goal.returns-clause-must_end
returns-clause-must_end c = λ p from within. c.difference.ensures p ∙ ap (λ (b : Bool). b && not (has c.args.list p)) (c.from_list.ensures p ∙ names-all p from within)
