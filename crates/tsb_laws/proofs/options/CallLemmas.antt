-- What calls make of a plan does not see the options.
use Rattle.std.proofs.Common.{◌≡◌, ℕ, refl}
use Rattle.tsb_step.specs.tsb_plan.declared.object.Object.{Object}
use Rattle.tsb_step.specs.tsb_plan.Plan.{Plan}
use Rattle.tsb_step.specs.tsb_calls.Callable.{is_callable, has_conflict}
use Rattle.tsb_step.specs.tsb_calls.Memories.{actuations, counted, has_button, pedestrian_memory, has_output, vehicle_memory}
use Rattle.tsb_laws.proofs.options.DifferLemmas.{with_options}

module _ (plan : Plan) (v : Object → ℕ → ℕ) where
  pub actuations-same : actuations (with_options plan v) ≡ actuations plan
  unfolding actuations
  actuations-same = refl

  pub counted-same : counted (with_options plan v) ≡ counted plan
  unfolding counted actuations
  counted-same = refl

  pub has_button-same : has_button (with_options plan v) ≡ has_button plan
  unfolding has_button
  has_button-same = refl

  pub pedestrian_memory-same : pedestrian_memory (with_options plan v) ≡ pedestrian_memory plan
  unfolding pedestrian_memory has_button
  pedestrian_memory-same = refl

  pub has_output-same : has_output (with_options plan v) ≡ has_output plan
  unfolding has_output
  has_output-same = refl

  pub vehicle_memory-same : vehicle_memory (with_options plan v) ≡ vehicle_memory plan
  unfolding vehicle_memory has_output
  vehicle_memory-same = refl

  pub is_callable-same : is_callable (with_options plan v) ≡ is_callable plan
  unfolding is_callable has_output
  is_callable-same = refl

  pub has_conflict-same : has_conflict (with_options plan v) ≡ has_conflict plan
  unfolding has_conflict is_callable has_output
  has_conflict-same = refl
