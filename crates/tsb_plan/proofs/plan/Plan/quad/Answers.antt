use Rattle.std.proofs.Common.{ap, ◌∙◌, refl}
use Rattle.tsb_plan.specs.Plan.{Plan, with_values}
use Rattle.tsb_plan.specs.Quad.{quad, with_rows, quad_rows, quad_values}
use Rattle.tsb_plan.proofs.plan.Plan.quad.Goals as goal

pub returns : goal.returns
unfolding quad
returns c =
    c.with_values.ensures ∙ ap (λ (plan : Plan). with_values plan quad_values)
    (c.with_rows.ensures ∙ ap (λ (plan : Plan). with_rows plan quad_rows) c.empty.ensures)

pub with_rows-requires : goal.with_rows-requires
with_rows-requires c = refl

pub with_values-requires : goal.with_values-requires
with_values-requires c = refl
