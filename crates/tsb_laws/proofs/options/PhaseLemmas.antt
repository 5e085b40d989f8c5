-- What phase timing makes of a plan does not see the options.
use Rattle.std.proofs.Common.{◌≡◌, ℕ, ◌*◌, ◌==◌, Bool, true, false, if◌then◌else◌, refl}
use Rattle.tsb_step.specs.tsb_plan.declared.object.Object.TheVariants.{PhaseMaximum1, PhaseMaximum2, UnitMax2}
use Rattle.tsb_step.specs.tsb_plan.declared.object.Object.{Object}
use Rattle.tsb_step.specs.tsb_plan.Plan.{Plan, maximum}
use Rattle.tsb_step.specs.tsb_phase.Green.{gap, initial, cars_waiting, reduction_timer}
use Rattle.tsb_step.specs.tsb_phase.Pedestrian.{pedestrian_now}
use Rattle.tsb_step.specs.tsb_phase.Ready.{is_over, red_revert_passed}
use Rattle.tsb_laws.proofs.options.DifferLemmas.{with_options}

module _ (plan : Plan) (v : Object → ℕ → ℕ) where
  pub gap-same : gap (with_options plan v) ≡ gap plan
  unfolding gap
  gap-same = refl

  pub initial-same : initial (with_options plan v) ≡ initial plan
  unfolding initial
  initial-same = refl

  pub cars_waiting-same : cars_waiting (with_options plan v) ≡ cars_waiting plan
  unfolding cars_waiting
  cars_waiting-same = refl

  pub reduction_timer-same : reduction_timer (with_options plan v) ≡ reduction_timer plan
  unfolding reduction_timer cars_waiting
  reduction_timer-same = refl

  pub pedestrian_now-same : pedestrian_now (with_options plan v) ≡ pedestrian_now plan
  unfolding pedestrian_now
  pedestrian_now-same = refl

  pub is_over-same : is_over (with_options plan v) ≡ is_over plan
  unfolding is_over
  is_over-same = refl

  pub maximum-same : (p : ℕ) → maximum (with_options plan v) p ≡ maximum plan p
  maximum-same p = go (plan.value UnitMax2 1 == 1)
    where
      go : (b : Bool) → 10 * (with_options plan v).value (if b then PhaseMaximum2 else PhaseMaximum1) p ≡ 10 * plan.value (if b then PhaseMaximum2 else PhaseMaximum1) p
      go true = refl
      go false = refl

  pub red_revert_passed-same : red_revert_passed (with_options plan v) ≡ red_revert_passed plan
  unfolding red_revert_passed
  red_revert_passed-same = refl
