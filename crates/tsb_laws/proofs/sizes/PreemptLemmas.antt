-- What preempts make of a plan, where those that it has not have no dwell phase, and so never request service.
use Rattle.std.proofs.Common.{◌≡◌, ℕ, ◌==◌, not, ◌&&◌, refl, ap}
use Rattle.std.proofs.Math.Path.{fun_ext}
use Rattle.tsb_step.specs.tsb_types.declared.limits.TheConstants.{PREEMPTS}
use Rattle.tsb_step.specs.tsb_cells.Timer.{has_reached}
use Rattle.tsb_step.specs.tsb_plan.Parts.{preempt_delay}
use Rattle.tsb_step.specs.tsb_plan.Plan.{Plan}
use Rattle.tsb_step.specs.tsb_preempt.Preempts.{delay_timer, has_input, still_spent, requests, requesting, beginning, dwell_ends, new_service}
use Rattle.tsb_step.specs.tsb_preempt.Service.{all_green}
use Rattle.tsb_laws.specs.Sizes.{IsOfFewer, full}
use Rattle.tsb_laws.proofs.sizes.LongerLemmas.{first-longer}
use Rattle.tsb_laws.proofs.sizes.ReadLemmas.{no_dwell}

module _ (plan : Plan) (few : IsOfFewer plan) where
  requesting-same : requesting (full plan) ≡ requesting plan
  unfolding requesting
  requesting-same = fun_ext (λ given. fun_ext (λ w.
      first-longer (requests plan given w) 1 plan.counts.preempts PREEMPTS few.fewer.preempts
      (λ n out. ap (λ (list : ℕ). not (list == 0)
      && (has_input given w n && (has_reached (delay_timer given w n) (preempt_delay plan n) && not (still_spent given w n)))) (no_dwell plan few n out))))

  beginning-same : beginning (full plan) ≡ beginning plan
  unfolding beginning
  beginning-same = fun_ext (λ given. fun_ext (λ w. rw requesting-same refl))

  pub dwell_ends-same : dwell_ends (full plan) ≡ dwell_ends plan
  unfolding dwell_ends
  dwell_ends-same = fun_ext (λ given. fun_ext (λ w. fun_ext (λ n. rw beginning-same refl)))

  pub new_service-same : new_service (full plan) ≡ new_service plan
  unfolding new_service all_green
  new_service-same = fun_ext (λ given. fun_ext (λ w. rw beginning-same refl))
