-- What preempts make of a plan does not see the options.
use Rattle.std.proofs.Common.{◌≡◌, ℕ, refl}
use Rattle.tsb_step.specs.tsb_plan.declared.object.Object.{Object}
use Rattle.tsb_step.specs.tsb_plan.Plan.{Plan}
use Rattle.tsb_step.specs.tsb_preempt.Preempts.{requesting, beginning, dwell_ends, new_service}
use Rattle.tsb_step.specs.tsb_preempt.Service.{all_green}
use Rattle.tsb_laws.proofs.options.DifferLemmas.{with_options}

module _ (plan : Plan) (v : Object → ℕ → ℕ) where
  pub requesting-same : requesting (with_options plan v) ≡ requesting plan
  unfolding requesting
  requesting-same = refl

  pub beginning-same : beginning (with_options plan v) ≡ beginning plan
  unfolding beginning requesting
  beginning-same = refl

  pub dwell_ends-same : dwell_ends (with_options plan v) ≡ dwell_ends plan
  unfolding dwell_ends beginning requesting
  dwell_ends-same = refl

  pub all_green-same : all_green (with_options plan v) ≡ all_green plan
  unfolding all_green
  all_green-same = refl

  pub new_service-same : new_service (with_options plan v) ≡ new_service plan
  unfolding new_service beginning requesting all_green
  new_service-same = refl
