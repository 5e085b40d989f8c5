use Rattle.std.proofs.Common.{ap, ◌∙◌}
use Rattle.tsb_plan.specs.Plan.{Plan, with_values}
use Rattle.tsb_plan.specs.Two.{two, two_values}
use Rattle.tsb_plan.proofs.plan.Plan.two.Goals as goal

pub returns : goal.returns
unfolding two
returns c = c.with_values.ensures ∙ ap (λ (plan : Plan). with_values plan two_values) c.empty.ensures
