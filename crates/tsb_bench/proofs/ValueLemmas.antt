-- Plans that say the same have the same cells.
use Rattle.std.proofs.Common.{◌≡◌, sym, ap, ◌∙◌}
use Rattle.tsb_plan.specs.declared.plan.Plan as memory
use Rattle.tsb_plan.specs.PlanOf.{plan_of, plan_cells}
use Rattle.tsb_plan.proofs.ToldLemmas.{plan_cells-plan_in}

pub values-of : (a b : memory.Plan) → plan_of a ≡ plan_of b → a.values ≡ b.values
unfolding plan_of
values-of a b same = sym (plan_cells-plan_in a.values a.full) ∙ ap plan_cells same ∙ plan_cells-plan_in b.values b.full
