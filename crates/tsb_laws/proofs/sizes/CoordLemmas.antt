-- Local counters and what they order do not see how many detectors, overlaps and preempts there are.
use Rattle.std.proofs.Common.{◌≡◌, ℕ, ◌+◌, ◌-◌, ◌%◌, ◌==◌, Bool, ◌&&◌, ◌||◌, Option, Some, None, refl, ap, ap₂, ◌∙◌}
use Rattle.tsb_step.specs.tsb_plan.declared.plan.patterns.CorrectionMode.{CorrectionMode}
use Rattle.tsb_step.specs.tsb_plan.declared.plan.patterns.CorrectionMode.TheVariants.{AtOnce, Dwell, ShortWay, AddOnly}
use Rattle.tsb_step.specs.tsb_plan.declared.plan.patterns.OffsetReference.{OffsetReference}
use Rattle.tsb_step.specs.tsb_plan.declared.plan.patterns.OffsetReference.TheVariants.{SplitEnd, FirstGreen, LastGreen, FirstYellow, LastYellow, FirstRed}
use Rattle.tsb_step.specs.tsb_plan.Parts.{cycle, correction_limit, correction_mode, offset_reference}
use Rattle.tsb_step.specs.tsb_plan.Plan.{Plan}
use Rattle.tsb_step.specs.tsb_plan.Running.{running}
use Rattle.tsb_step.specs.tsb_objects.Instants.{counted_to, end_within, offset_from, waiting_point}
use Rattle.tsb_step.specs.tsb_rules.PatternRules.{split_sum, side_sum, split_end}
use Rattle.tsb_step.specs.tsb_coord.declared.correction.Correction.{Correction}
use Rattle.tsb_step.specs.tsb_coord.Clock.{shift}
use Rattle.tsb_step.specs.tsb_coord.Coordinated.{counter, local, local_in, reference, residue_of_difference, forces_off, recycles, asks_force_off, asks_recycle, force_off, offset_in_effect}
use Rattle.tsb_step.specs.tsb_coord.Correction.{longest_wait, waited, shift_of, way, slower, ahead_by, within_cycle, ahead_in, clocked, counted_tick, local_now, steps_twice_in, steps_twice, forces, lets_walk_again, ahead_with, ahead_from, begun, selected_correction}
use Rattle.tsb_laws.specs.Sizes.{full}

module _ (plan : Plan) where
  -- the offset in effect is the same, whatever it is counted to
  offset-same : (n : ℕ) → offset_in_effect (full plan) n ≡ offset_in_effect plan n
  unfolding split_end side_sum split_sum
  offset-same n = go (offset_reference plan)
    where
      go : (r : OffsetReference) → offset_from plan n (counted_to r (full plan) n) (end_within (full plan) n (reference (full plan) n))
          ≡ offset_from plan n (counted_to r plan n) (end_within plan n (reference plan n))
      go SplitEnd = refl
      go FirstGreen = refl
      go LastGreen = refl
      go FirstYellow = refl
      go LastYellow = refl
      go FirstRed = refl

  counter-same : (n t : ℕ) → counter (full plan) n t ≡ counter plan n t
  counter-same n t = ap (λ (o : ℕ). (t + cycle plan n - o) % cycle plan n) (offset-same n)

  local-same : (t : ℕ) (selected : Option ℕ) → local (full plan) t selected ≡ local plan t selected
  local-same t selected = go (running plan selected)
    where
      go : (runs : Option ℕ) → local_in (full plan) t runs ≡ local_in plan t runs
      go None = refl
      go (Some n) = ap Some (counter-same n t)

  forces_off-same : (runs l : Option ℕ) (p : ℕ) → forces_off (full plan) runs l p ≡ forces_off plan runs l p
  unfolding force_off split_end side_sum split_sum
  forces_off-same runs l p = refl

  recycles-same : (runs l : Option ℕ) (p : ℕ) → recycles (full plan) runs l p ≡ recycles plan runs l p
  unfolding force_off split_end side_sum split_sum
  recycles-same runs l p = refl

  asks-same : (t : ℕ) (selected : Option ℕ) (p : ℕ) → asks_force_off (full plan) t selected p ≡ asks_force_off plan t selected p
  asks-same t selected p =
      forces_off-same (running plan selected) (local (full plan) t selected) p
      ∙ ap (λ (l : Option ℕ). forces_off plan (running plan selected) l p) (local-same t selected)

  asks_recycle-same : (t : ℕ) (selected : Option ℕ) (p : ℕ) → asks_recycle (full plan) t selected p ≡ asks_recycle plan t selected p
  asks_recycle-same t selected p =
      recycles-same (running plan selected) (local (full plan) t selected) p
      ∙ ap (λ (l : Option ℕ). recycles plan (running plan selected) l p) (local-same t selected)

  -- ## How far the counter is ahead

  waiting-same : (n : ℕ) → waiting_point (full plan) n ≡ waiting_point plan n
  unfolding force_off split_end side_sum split_sum
  waiting-same n = refl

  way-same : (n : ℕ) (c : Correction) → way (full plan) n c ≡ way plan n c
  way-same n c =
      ap₂ (λ (w k : ℕ). residue_of_difference (cycle plan n) w (k + c.ahead)) (waiting-same n) (counter-same n (c.since + shift_of plan n c))

  ahead_by-same : (mode : CorrectionMode) (n : ℕ) (c : Correction) (ticks : ℕ) → ahead_by mode (full plan) n c ticks ≡ ahead_by mode plan n c ticks
  ahead_by-same AtOnce n c ticks = refl
  ahead_by-same Dwell n c ticks =
      ap (λ (w : ℕ). slower c.ahead (waited (cycle plan n) (longest_wait (correction_limit plan) (cycle plan n)) (ticks - w))) (way-same n c)
  ahead_by-same ShortWay n c ticks = refl
  ahead_by-same AddOnly n c ticks = refl

  ahead_in-same : (runs : Option ℕ) (c : Correction) (t : ℕ) → ahead_in (full plan) runs c t ≡ ahead_in plan runs c t
  ahead_in-same None c t = refl
  ahead_in-same (Some n) c t = ahead_by-same (correction_mode plan) n (within_cycle plan n c) (t - c.since)

  counted-same : (selected : Option ℕ) (c : Correction) (t : ℕ) → counted_tick (full plan) selected c t ≡ counted_tick plan selected c t
  counted-same selected c t = ap (λ (k : ℕ). clocked plan selected c t + k) (ahead_in-same (running plan selected) c t)

  twice-same : (selected : Option ℕ) (c : Correction) (t : ℕ) → steps_twice (full plan) selected c t ≡ steps_twice plan selected c t
  twice-same selected c t = go (running plan selected)
    where
      go : (runs : Option ℕ) → steps_twice_in (full plan) runs c t ≡ steps_twice_in plan runs c t
      go None = refl
      go (Some n) = ap₂ (λ (a b : ℕ). a == (b + 1) % cycle plan n) (ahead_in-same (Some n) c t) (ahead_in-same (Some n) c (t - 1))

  -- ## What the counter orders

  pub forces-same : (selected : Option ℕ) (c : Correction) (t p : ℕ) → forces (full plan) selected c t p ≡ forces plan selected c t p
  forces-same selected c t p =
      ap₂ (λ (a b : Bool). a || b)
      (asks-same (counted_tick (full plan) selected c t) selected p
      ∙ ap (λ (k : ℕ). asks_force_off plan k selected p) (counted-same selected c t))
      (ap₂ (λ (a b : Bool). a && b) (twice-same selected c t)
      (asks-same (counted_tick (full plan) selected c t - 1) selected p
      ∙ ap (λ (k : ℕ). asks_force_off plan (k - 1) selected p) (counted-same selected c t)))

  pub lets_walk_again-same : (selected : Option ℕ) (c : Correction) (t p : ℕ) →
      lets_walk_again (full plan) selected c t p ≡ lets_walk_again plan selected c t p
  lets_walk_again-same selected c t p =
      ap₂ (λ (a b : Bool). a && b) (ap (λ (k : ℕ). k == 0) (ahead_in-same (running plan selected) c (t - 1)))
      (asks_recycle-same (clocked plan selected c t) selected p)

  pub local_now-same : (selected : Option ℕ) (c : Correction) (t : ℕ) → local_now (full plan) selected c t ≡ local_now plan selected c t
  local_now-same selected c t =
      local-same (counted_tick (full plan) selected c t) selected ∙ ap (λ (k : ℕ). local plan k selected) (counted-same selected c t)

  ahead_from-same : (n t : ℕ) (l : Option ℕ) → ahead_from (full plan) n t l ≡ ahead_from plan n t l
  ahead_from-same n t None = refl
  ahead_from-same n t (Some l) =
      ap (λ (k : ℕ). ahead_with (correction_mode plan) (residue_of_difference (cycle plan n) (l % cycle plan n) k)) (counter-same n t)

  pub selected_correction-same : (selected : Option ℕ) (now midnight : ℕ) (l : Option ℕ) →
      selected_correction (full plan) selected now midnight l ≡ selected_correction plan selected now midnight l
  selected_correction-same None now midnight l = refl
  selected_correction-same (Some n) now midnight l = ap (begun now midnight) (ahead_from-same n (now + shift (cycle plan n) midnight) l)
