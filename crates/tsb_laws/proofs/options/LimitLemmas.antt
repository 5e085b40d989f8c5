-- What reads options does not see the correction limit: rules, when a green may end, how a dynamic maximum moves,
-- overlaps and the monitor.
use Rattle.std.proofs.Common.{◌≡◌, ℕ, ◌+◌, ◌-◌, Bool, ◌&&◌, ◌||◌, if◌then◌else◌, min, max, Option, Some, None, refl, ap, ap₂, ◌∙◌}
use Rattle.std.proofs.Math.Path.{fun_ext}
use Rattle.std.specs.List.{list_any}
use Rattle.tsb_step.specs.tsb_cells.Timer.{has_reached}
use Rattle.tsb_step.specs.tsb_types.declared.interval.PedestrianInterval.{PedestrianInterval}
use Rattle.tsb_step.specs.tsb_types.declared.lamp.Aspect.{Aspect}
use Rattle.tsb_step.specs.tsb_types.Intervals.{is_green, is_dont_walk}
use Rattle.tsb_step.specs.tsb_types.Lists.{run_from}
use Rattle.tsb_step.specs.tsb_plan.declared.object.Object.{Object}
use Rattle.tsb_step.specs.tsb_plan.Parts.{split_of, sequence_of, leads_and_lags}
use Rattle.tsb_step.specs.tsb_plan.Plan.{Plan, dynamic_maximum_limit, dynamic_maximum_step}
use Rattle.tsb_step.specs.tsb_rules.declared.rules.Rule.TheVariants.{K14, K15, K16, K17, K18, K19, K20}
use Rattle.tsb_step.specs.tsb_rules.PatternRules.{some_and, each_pattern, patterns_are_whole, splits_hold_phases}
use Rattle.tsb_step.specs.tsb_rules.Rules.{unless, included_phases_are_enabled, preempts_are_concurrent, preempts_dwell, broken_by_extensions, broken_by_overlaps, broken_by_parts, first_broken}
use Rattle.tsb_step.specs.tsb_heads.Displays.{ordered}
use Rattle.tsb_step.specs.tsb_heads.Heads.{Shown}
use Rattle.tsb_step.specs.tsb_heads.Monitoring.{has_green_arrow, conflict_of, conflict}
use Rattle.tsb_step.specs.tsb_overlap.Overlap.{run_on, is_held, may_flash, settled, next}
use Rattle.tsb_step.specs.tsb_heads.Overlaps.{has_green_modifier, has_yellow_modifier, is_kept_green, is_on_last_yellow, lasts, some_lasts, overlap_head}
use Rattle.tsb_step.specs.tsb_phase.declared.ending.Ending.{Ending}
use Rattle.tsb_step.specs.tsb_phase.declared.ending.Ending.TheVariants.{MaxOut, GapOut}
use Rattle.tsb_step.specs.tsb_phase.DynamicMaximum.{is_dynamic, effective_maximum, maximum_in_use, is_same, stepped, running_maximum_after}
use Rattle.tsb_step.specs.tsb_phase.Green.{conflict_timer, initial_has_passed, is_gapped, is_by_gap, has_reached_some, acting_maximum, has_maxed_out, forced_latch}
use Rattle.tsb_step.specs.tsb_phase.Pedestrian.{ended_by}
use Rattle.tsb_step.specs.tsb_phase.Phase.{Phase, Given, GreenHeld, held_of}
use Rattle.tsb_step.specs.tsb_phase.Ready.{needs_forced, green_is_done, is_ready}
use Rattle.tsb_laws.proofs.options.DifferLemmas.{only_limit, with_limit}
use Rattle.tsb_laws.proofs.options.HeadLemmas.{is_on_yellow-same}
use Rattle.tsb_laws.proofs.options.PhaseLemmas.{gap-same, initial-same, reduction_timer-same, pedestrian_now-same, maximum-same}
use Rattle.tsb_laws.proofs.options.RuleLemmas.{fills-same, agree-same, broken_by_phases-same, broken_by_rings-same, broken_by_schedule-same}

module _ (plan : Plan) (v : Object → ℕ → ℕ) where
  broken_by_extensions-same : broken_by_extensions (with_limit plan v) ≡ broken_by_extensions plan
  unfolding broken_by_extensions
  broken_by_extensions-same = refl

  broken_by_overlaps-same : broken_by_overlaps (with_limit plan v) ≡ broken_by_overlaps plan
  unfolding broken_by_overlaps
  broken_by_overlaps-same = refl

  broken_by_parts-same : broken_by_parts (with_limit plan v) ≡ broken_by_parts plan
  unfolding broken_by_parts
  broken_by_parts-same =
      ap₂ (λ (f : ℕ → ℕ → Bool) (g : Bool → ℕ → ℕ → Bool).
      unless (included_phases_are_enabled plan) K14
      (unless (preempts_are_concurrent plan) K15
      (unless (preempts_dwell plan) K16
      (unless (patterns_are_whole plan) K17
      (unless (splits_hold_phases plan) K18
      (unless (each_pattern plan (λ n. some_and (f n) (split_of plan n))) K19
      (unless (each_pattern plan (λ n. some_and (λ s. some_and (g (leads_and_lags plan n) s) (split_of plan n)) (sequence_of plan n))) K20
      None)))))))
      (fun_ext (λ n. fun_ext (λ t. fills-same plan (only_limit plan v) n t)))
      (fun_ext (λ apart. fun_ext (λ s. fun_ext (λ t. agree-same plan (only_limit plan v) apart s t))))

  pub first_broken-same : first_broken (with_limit plan v) ≡ first_broken plan
  unfolding first_broken
  first_broken-same =
      rw (
        broken_by_extensions-same,
        broken_by_overlaps-same,
        broken_by_parts-same,
        broken_by_phases-same plan (only_limit plan v),
        broken_by_rings-same plan (only_limit plan v),
        broken_by_schedule-same plan (only_limit plan v),
      ) refl

  maximum_in_use-same : maximum_in_use (with_limit plan v) ≡ maximum_in_use plan
  unfolding maximum_in_use
  maximum_in_use-same = fun_ext (λ p. fun_ext (λ running. go p running))
    where
      go : (p : ℕ) (running : Option ℕ) → maximum_in_use (with_limit plan v) p running ≡ maximum_in_use plan p running
      go p None = ap (λ (m : ℕ). if is_dynamic plan p then m else m) (maximum-same plan (only_limit plan v) p)
      go p (Some running) =
          ap (λ (m : ℕ). if is_dynamic plan p
          then max (min m (dynamic_maximum_limit plan p)) (min (max m (dynamic_maximum_limit plan p)) running) else m)
          (maximum-same plan (only_limit plan v) p)

  pub is_gapped-same : (given : Given) (p : ℕ) (held : GreenHeld) → is_gapped (with_limit plan v) given p held ≡ is_gapped plan given p held
  is_gapped-same given p held =
      rw (gap-same plan (only_limit plan v), initial-same plan (only_limit plan v), reduction_timer-same plan (only_limit plan v)) refl

  acting-same : (runs : Option ℕ) (p : ℕ) (running : Option ℕ) →
      acting_maximum (with_limit plan v) runs p running ≡ acting_maximum plan runs p running
  acting-same None p running = ap (λ (f : ℕ → Option ℕ → ℕ). Some (f p running)) maximum_in_use-same
  acting-same (Some n) p running = refl

  done-same : (given : Given) (p : ℕ) (w : Phase) (ended : Option ℕ) →
      green_is_done (with_limit plan v) given p w ended ≡ green_is_done plan given p w ended
  done-same given p w None =
      ap₂ (λ (f : ℕ → ℕ → ℕ) (o : Option ℕ). has_reached w.timer (f p (given.count p)) && (if needs_forced given p then forced_latch plan given p (held_of w)
      else (is_by_gap plan given p (is_gapped (with_limit plan v) given p (held_of w))
      || (has_reached_some (conflict_timer given p (held_of w)) o || forced_latch plan given p (held_of w)))))
      (initial-same plan (only_limit plan v)) (acting-same given.runs p w.running_maximum)
      ∙ ap (λ (b : Bool). initial_has_passed plan given p (held_of w) && (if needs_forced given p then forced_latch plan given p (held_of w)
      else (is_by_gap plan given p b || (has_maxed_out plan given p (held_of w) w.running_maximum || forced_latch plan given p (held_of w)))))
      (is_gapped-same given p (held_of w))
  done-same given p w (Some n) = rw (initial-same plan (only_limit plan v)) refl

  pub is_ready-same : is_ready (with_limit plan v) ≡ is_ready plan
  unfolding is_ready
  is_ready-same = fun_ext (λ given. fun_ext (λ p. fun_ext (λ w.
      ap₂ (λ (f : Given → ℕ → Phase → PedestrianInterval) (b : Bool). is_green w.interval && (is_dont_walk (f given p w) && b))
      (pedestrian_now-same plan (only_limit plan v)) (done-same given p w (ended_by given p)))))

  -- ## How a dynamic maximum moves

  effective-same : (p : ℕ) (running : Option ℕ) → effective_maximum (with_limit plan v) p running ≡ effective_maximum plan p running
  effective-same p None = maximum-same plan (only_limit plan v) p
  effective-same p (Some running) =
      ap (λ (m : ℕ). max (min m (dynamic_maximum_limit plan p)) (min (max m (dynamic_maximum_limit plan p)) running)) (maximum-same plan (only_limit plan v) p)

  stepped-same : (p : ℕ) (e : Ending) (effective : ℕ) → stepped (with_limit plan v) p e effective ≡ stepped plan p e effective
  stepped-same p MaxOut effective =
      ap (λ (m : ℕ). min (max m (dynamic_maximum_limit plan p)) (effective + dynamic_maximum_step plan p)) (maximum-same plan (only_limit plan v) p)
  stepped-same p GapOut effective =
      ap (λ (m : ℕ). max (min m (dynamic_maximum_limit plan p) + dynamic_maximum_step plan p) effective - dynamic_maximum_step plan p)
      (maximum-same plan (only_limit plan v) p)

  pub running-same : (p : ℕ) (e : Ending) (x : Phase) → running_maximum_after (with_limit plan v) p e x ≡ running_maximum_after plan p e x
  running-same p e x =
      ap (λ (n : ℕ). if is_dynamic plan p then (if is_same e x.last_ending then Some n else x.running_maximum) else None)
      (ap (λ (n : ℕ). stepped (with_limit plan v) p e n) (effective-same p x.running_maximum)
      ∙ stepped-same p e (effective_maximum plan p x.running_maximum))

  -- ## Heads

  is_kept_green-same : is_kept_green (with_limit plan v) ≡ is_kept_green plan
  unfolding is_kept_green
  is_kept_green-same = refl

  is_on_last_yellow-same : is_on_last_yellow (with_limit plan v) ≡ is_on_last_yellow plan
  unfolding is_on_last_yellow
  is_on_last_yellow-same = refl

  has_green_modifier-same : has_green_modifier (with_limit plan v) ≡ has_green_modifier plan
  unfolding has_green_modifier
  has_green_modifier-same = refl

  has_yellow_modifier-same : has_yellow_modifier (with_limit plan v) ≡ has_yellow_modifier plan
  unfolding has_yellow_modifier
  has_yellow_modifier-same = refl

  overlap_head-same : (s : Shown) (o : ℕ) → overlap_head (with_limit plan v) s o ≡ overlap_head plan s o
  overlap_head-same s o =
      rw (is_kept_green-same, is_on_yellow-same plan (only_limit plan v), has_green_modifier-same, has_yellow_modifier-same, is_on_last_yellow-same) refl

  pub ordered-same : (s : Shown) → ordered (with_limit plan v) s ≡ ordered plan s
  ordered-same s = ap (λ (f : ℕ → Aspect). record (ordered plan s) { overlap = f }) (fun_ext (λ o. overlap_head-same s o))

  lasts-same : lasts (with_limit plan v) ≡ lasts plan
  unfolding lasts
  lasts-same = refl

  pub some_lasts-same : some_lasts (with_limit plan v) ≡ some_lasts plan
  unfolding some_lasts
  some_lasts-same = fun_ext (λ s. ap (λ (f : Shown → ℕ → Bool). list_any (f s) (run_from 1 plan.counts.overlaps)) lasts-same)

  pub conflict-same : conflict (with_limit plan v) ≡ conflict plan
  unfolding conflict conflict_of has_green_arrow
  conflict-same = refl

  -- ## Overlaps with intervals of their own

  pub is_held-same : is_held (with_limit plan v) ≡ is_held plan
  unfolding is_held run_on
  is_held-same = refl

  pub next-same : next (with_limit plan v) ≡ next plan
  unfolding next run_on settled may_flash is_kept_green
  next-same = refl
