-- What heads of phases make of a plan does not see the options.
use Rattle.std.proofs.Common.{◌≡◌, ℕ, refl}
use Rattle.tsb_step.specs.tsb_plan.declared.object.Object.{Object}
use Rattle.tsb_step.specs.tsb_plan.Plan.{Plan}
use Rattle.tsb_step.specs.tsb_heads.Monitoring.{green_to_red}
use Rattle.tsb_step.specs.tsb_heads.Overlaps.{is_on_yellow}
use Rattle.tsb_laws.proofs.options.DifferLemmas.{with_options}

module _ (plan : Plan) (v : Object → ℕ → ℕ) where
  pub green_to_red-same : green_to_red (with_options plan v) ≡ green_to_red plan
  unfolding green_to_red
  green_to_red-same = refl

  pub is_on_yellow-same : is_on_yellow (with_options plan v) ≡ is_on_yellow plan
  unfolding is_on_yellow
  is_on_yellow-same = refl
