-- What phase timing makes of a plan does not see how many detectors, overlaps and preempts there are.
use Rattle.std.proofs.Common.{◌≡◌, ℕ, refl}
use Rattle.tsb_step.specs.tsb_plan.Plan.{Plan}
use Rattle.tsb_step.specs.tsb_phase.DynamicMaximum.{maximum_in_use}
use Rattle.tsb_step.specs.tsb_phase.Green.{gap, initial, cars_waiting, reduction_timer}
use Rattle.tsb_step.specs.tsb_phase.Next.{next}
use Rattle.tsb_step.specs.tsb_phase.Pedestrian.{pedestrian_now}
use Rattle.tsb_step.specs.tsb_phase.Phase.{Phase, Given, Moved}
use Rattle.tsb_step.specs.tsb_phase.Ready.{is_gapped_now, is_over, is_ready, red_revert_passed}
use Rattle.tsb_laws.specs.Sizes.{full}

module _ (plan : Plan) where
  pub gap-same : gap (full plan) ≡ gap plan
  unfolding gap
  gap-same = refl

  pub initial-same : initial (full plan) ≡ initial plan
  unfolding initial
  initial-same = refl

  pub cars_waiting-same : cars_waiting (full plan) ≡ cars_waiting plan
  unfolding cars_waiting
  cars_waiting-same = refl

  pub reduction_timer-same : reduction_timer (full plan) ≡ reduction_timer plan
  unfolding reduction_timer cars_waiting
  reduction_timer-same = refl

  pub pedestrian_now-same : pedestrian_now (full plan) ≡ pedestrian_now plan
  unfolding pedestrian_now
  pedestrian_now-same = refl

  pub is_over-same : is_over (full plan) ≡ is_over plan
  unfolding is_over
  is_over-same = refl

  pub red_revert_passed-same : red_revert_passed (full plan) ≡ red_revert_passed plan
  unfolding red_revert_passed
  red_revert_passed-same = refl

  pub maximum_in_use-same : maximum_in_use (full plan) ≡ maximum_in_use plan
  unfolding maximum_in_use
  maximum_in_use-same = refl

  pub is_gapped-same : (given : Given) (p : ℕ) (w : Phase) → is_gapped_now (full plan) given p w ≡ is_gapped_now plan given p w
  is_gapped-same given p w = rw (gap-same, initial-same, reduction_timer-same) refl

  pub is_ready-same : is_ready (full plan) ≡ is_ready plan
  unfolding is_ready gap initial cars_waiting reduction_timer pedestrian_now maximum_in_use
  is_ready-same = refl

  pub next-same : (given : Given) (moved : Moved) (p : ℕ) (was : Phase) → next (full plan) given moved p was ≡ next plan given moved p was
  unfolding gap initial cars_waiting reduction_timer pedestrian_now maximum_in_use
  next-same given moved p was = refl
