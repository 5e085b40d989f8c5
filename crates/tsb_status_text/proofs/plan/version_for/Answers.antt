use Rattle.std.proofs.Common.{Bool, if◌then◌else◌, sym, ap, ◌∙◌}
use Rattle.tsb_plan.specs.declared.version.Version.TheVariants.{Two, Three}
use Rattle.tsb_plan.specs.Objects.{objects}
use Rattle.tsb_status_text.specs.PlanLine.{version_for}
use Rattle.tsb_status_text.proofs.plan.version_for.Goals as goal

pub returns-then-all_fit_version_2 : goal.returns-then-all_fit_version_2
unfolding version_for objects
returns-then-all_fit_version_2 c = ap (λ (b : Bool). if b then Two else Three) (sym c.if-all_fit_version_2.true ∙ c.all_fit_version_2.ensures)

pub returns-else-all_fit_version_2 : goal.returns-else-all_fit_version_2
unfolding version_for objects
returns-else-all_fit_version_2 c = ap (λ (b : Bool). if b then Two else Three) (sym c.if-all_fit_version_2.false ∙ c.all_fit_version_2.ensures)
