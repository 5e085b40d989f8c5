-- What calls make of a plan, where the detectors that it has not call no phase.
use Rattle.std.proofs.Common.{◌≡◌, ℕ, Bool, not, ◌&&◌, ◌||◌, Option, is_some, refl, ap, ap₂}
use Rattle.std.proofs.Math.Path.{fun_ext}
use Rattle.tsb_step.specs.tsb_types.declared.limits.TheConstants.{VEHICLE_DETECTORS, PEDESTRIAN_DETECTORS}
use Rattle.tsb_step.specs.tsb_types.Lists.{is, some_passes}
use Rattle.tsb_step.specs.tsb_plan.Plan.{Plan, phases, is_non_locking, has_soft_recall}
use Rattle.tsb_step.specs.tsb_calls.Callable.{has_pedestrian_call, is_recalled, is_free, is_callable_otherwise, some_is_callable_otherwise, is_callable, has_conflict}
use Rattle.tsb_step.specs.tsb_calls.Memories.{Given, Memories, calls, calls_walk, actuations, counted, has_button, pedestrian_memory, has_output, vehicle_memory}
use Rattle.tsb_laws.specs.Sizes.{IsOfFewer, full}
use Rattle.tsb_laws.proofs.sizes.LongerLemmas.{first-longer, count-longer}
use Rattle.tsb_laws.proofs.sizes.ReadLemmas.{no_call, no_walk_call}

module _ (plan : Plan) (few : IsOfFewer plan) where
  pub has_output-same : has_output (full plan) ≡ has_output plan
  unfolding has_output
  has_output-same = fun_ext (λ given. fun_ext (λ p.
      ap (λ (o : Option ℕ). is_some o)
      (first-longer (λ d. calls plan d p && given.output d) 1 plan.counts.vehicle_detectors VEHICLE_DETECTORS few.fewer.vehicle_detectors
      (λ d out. ap (λ (o : Option ℕ). is p o && given.output d) (no_call plan few d out)))))

  pub actuations-same : actuations (full plan) ≡ actuations plan
  unfolding actuations
  actuations-same = fun_ext (λ given. fun_ext (λ p.
      count-longer (λ d. calls plan d p && given.actuated d) 1 plan.counts.vehicle_detectors VEHICLE_DETECTORS few.fewer.vehicle_detectors
      (λ d out. ap (λ (o : Option ℕ). is p o && given.actuated d) (no_call plan few d out))))

  pub has_button-same : has_button (full plan) ≡ has_button plan
  unfolding has_button
  has_button-same = fun_ext (λ given. fun_ext (λ p.
      ap (λ (o : Option ℕ). is_some o)
      (first-longer (λ d. calls_walk plan d p && given.button d) 1 plan.counts.pedestrian_detectors PEDESTRIAN_DETECTORS few.fewer.pedestrian_detectors
      (λ d out. ap (λ (o : Option ℕ). is p o && given.button d) (no_walk_call plan few d out)))))

  pub counted-same : counted (full plan) ≡ counted plan
  unfolding counted
  counted-same = fun_ext (λ given. fun_ext (λ w. fun_ext (λ p. rw actuations-same refl)))

  pub pedestrian_memory-same : pedestrian_memory (full plan) ≡ pedestrian_memory plan
  unfolding pedestrian_memory
  pedestrian_memory-same = fun_ext (λ given. fun_ext (λ w. fun_ext (λ p. rw has_button-same refl)))

  pub vehicle_memory-same : vehicle_memory (full plan) ≡ vehicle_memory plan
  unfolding vehicle_memory
  vehicle_memory-same = fun_ext (λ given. fun_ext (λ w. fun_ext (λ p. rw has_output-same refl)))

  otherwise-same : is_callable_otherwise (full plan) ≡ is_callable_otherwise plan
  otherwise-same = fun_ext (λ given. fun_ext (λ m. fun_ext (λ p.
      ap (λ (on : Given → ℕ → Bool). is_free plan given p
      && (m.vehicle p || (has_pedestrian_call plan given m p || ((is_non_locking plan p && on given p) || is_recalled plan given p)))) has_output-same)))

  some-same : some_is_callable_otherwise (full plan) ≡ some_is_callable_otherwise plan
  some-same = fun_ext (λ given. fun_ext (λ m.
      ap (λ (f : Given → Memories → ℕ → Bool). some_passes (f given m) (phases plan)) otherwise-same))

  pub is_callable-same : is_callable (full plan) ≡ is_callable plan
  unfolding is_callable
  is_callable-same = fun_ext (λ given. fun_ext (λ m. fun_ext (λ p.
      ap₂ (λ (f : Given → Memories → ℕ → Bool) (g : Given → Memories → Bool). f given m p || (is_free plan given p && (has_soft_recall plan p && not (g given m))))
      otherwise-same some-same)))

  pub has_conflict-same : has_conflict (full plan) ≡ has_conflict plan
  unfolding has_conflict
  has_conflict-same = fun_ext (λ given. fun_ext (λ m. fun_ext (λ p. rw is_callable-same refl)))
