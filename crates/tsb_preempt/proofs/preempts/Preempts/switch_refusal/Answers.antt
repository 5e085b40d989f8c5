use Rattle.std.proofs.Common.{◌∙◌, ap}
use Rattle.tsb_objects.specs.tsb_plan.Plan.{Plan}
use Rattle.tsb_preempt.specs.Preempts as words
use Rattle.tsb_preempt.proofs.preempts.Preempts.switch_refusal.Goals as goal

pub returns : goal.returns
returns c = c.refusal_of.ensures ∙ ap (λ (plan : Plan). words.switch_refusal plan c.args.n c.args.on) c.plan.ensures.plan
