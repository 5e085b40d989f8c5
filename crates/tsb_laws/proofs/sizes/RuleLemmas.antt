-- The rules of a plan, where the detectors, overlaps and preempts that it has not call and name no phase.
use Rattle.std.proofs.Common.{◌≡◌, ℕ, ◌+◌, ◌≤◌, ◌==◌, nat_le, Bool, true, false, not, ◌&&◌, ◌||◌, List, [], ◌∷◌, Option, None, refl, ap, ap₂, ◌∙◌}
use Rattle.std.specs.List.{list_all}
use Rattle.std.proofs.Math.Path.{fun_ext}
use Rattle.tsb_step.specs.tsb_types.declared.limits.TheConstants.{VEHICLE_DETECTORS, PEDESTRIAN_DETECTORS, OVERLAPS, PREEMPTS}
use Rattle.tsb_step.specs.tsb_types.Lists.{first}
use Rattle.tsb_step.specs.tsb_types.Sets.{names}
use Rattle.tsb_step.specs.tsb_plan.declared.object.Object.TheVariants.{OverlapIncludedPhases, OverlapModifierPhases, OverlapType, PreemptTrackPhase, PreemptDwellPhase, PreemptExitPhase}
use Rattle.tsb_step.specs.tsb_plan.Parts.{call_phase, pedestrian_call_phase, is_modifier, includes_none, split_of, sequence_of, leads_and_lags}
use Rattle.tsb_step.specs.tsb_plan.Plan.{Plan, phases, is_enabled}
use Rattle.tsb_step.specs.tsb_coord.Coordinated.{force_off}
use Rattle.tsb_step.specs.tsb_rules.declared.rules.Rule.{Rule}
use Rattle.tsb_step.specs.tsb_rules.declared.rules.Rule.TheVariants.{K8, K9, K10, K11, K12, K13, K14, K15, K16, K17, K18, K19, K20, K21, K22, K23, K28, K29}
use Rattle.tsb_step.specs.tsb_rules.PatternRules.{some_and, each_pattern, patterns_are_whole, splits_hold_phases, splits_fill_cycles, coordinated_phases_agree, permissive_times_end, split_sum, side_sum, split_end, fills, coordinated_count, coordinated_agree}
use Rattle.tsb_step.specs.tsb_rules.Rules.{unless, none_or, serves_pedestrians, names_enabled, names_concurrent, goes_with_all, has_concurrent_lists, dwells_or_is_empty, modifies_rightly, turns_alone, points_rightly, arrows_are_right, trails_rightly, trails_are_right, yellows_are_long, gaps_can_reduce, maximums_reach_minimums, recalled_pedestrians_walk, detectors_call_phases, pedestrian_detectors_call_walks, included_phases_are_enabled, preempts_are_concurrent, preempts_dwell, modifiers_are_right, limits_reach_minimums, broken_by_extensions, broken_by_overlaps, broken_by_parts, broken_by_phases, broken_by_rings, broken_by_schedule, first_broken}
use Rattle.tsb_step.specs.tsb_rules.SequenceRules.{rises}
use Rattle.tsb_step.proofs.tsb_types.SetLemmas.{names-zero}
use Rattle.tsb_laws.specs.Sizes.{IsOfFewer, full}
use Rattle.tsb_laws.proofs.sizes.LongerLemmas.{all-longer}
use Rattle.tsb_laws.proofs.sizes.ReadLemmas.{no_call, no_walk_call, none_included, no_modifiers, no_type, no_trail_green, no_trail_yellow, no_track, no_dwell, no_exit}

module _ (plan : Plan) where
  pub rises-same : rises (full plan) ≡ rises plan
  rises-same = fun_ext go
    where
      go : (ps : List ℕ) → rises (full plan) ps ≡ rises plan ps
      go [] = refl
      go (p ∷ ps) = rw (go ps) refl

  pub split_sum-same : split_sum (full plan) ≡ split_sum plan
  unfolding split_sum
  split_sum-same = refl

  pub side_sum-same : side_sum (full plan) ≡ side_sum plan
  unfolding side_sum split_sum
  side_sum-same = refl

  pub split_end-same : split_end (full plan) ≡ split_end plan
  unfolding split_end side_sum split_sum
  split_end-same = refl

  pub force_off-same : force_off (full plan) ≡ force_off plan
  unfolding force_off split_end side_sum split_sum
  force_off-same = refl

  pub coordinated_count-same : coordinated_count (full plan) ≡ coordinated_count plan
  unfolding coordinated_count
  coordinated_count-same = refl

  -- K19 of a pattern and a split table
  pub fills-same : (n t : ℕ) → fills (full plan) n t ≡ fills plan n t
  unfolding side_sum split_sum
  fills-same n t = refl

  -- K20 of a sequence and a split table, where splits may end apart or not
  pub agree-same : (apart : Bool) (s t : ℕ) → coordinated_agree (full plan) apart s t ≡ coordinated_agree plan apart s t
  unfolding coordinated_count split_end side_sum split_sum
  agree-same apart s t = refl

  pub broken_by_schedule-same : broken_by_schedule (full plan) ≡ broken_by_schedule plan
  unfolding broken_by_schedule
  broken_by_schedule-same = refl

  pub broken_by_rings-same : broken_by_rings (full plan) ≡ broken_by_rings plan
  unfolding broken_by_rings
  broken_by_rings-same = rw rises-same refl

-- a list that names no phase asks nothing
names_none : (test : ℕ → Bool) (list : ℕ) (ps : List ℕ) → list ≡ 0 → list_all (λ p. not (names list p) || test p) ps ≡ true
names_none test list [] none = refl
names_none test list (p ∷ ps) none = rw (ap (λ (l : ℕ). names l p) none ∙ names-zero p) (names_none test list ps none)

concurrent_none : (plan : Plan) (list : ℕ) → list ≡ 0 → names_concurrent plan list ≡ true
concurrent_none plan list none = names_none (λ p. is_enabled plan p && goes_with_all plan list p) list (phases plan) none

-- the first of K14 to K20, by the tests of K14 to K16
abbrev late : Plan → Bool → Bool → Bool → Option Rule
late plan a b c =
    unless a K14
    (unless b K15
    (unless c K16
    (unless (patterns_are_whole plan) K17
    (unless (splits_hold_phases plan) K18
    (unless (splits_fill_cycles plan) K19
    (unless (coordinated_phases_agree plan) K20
    None))))))

three : (a b c : Bool) → a ≡ true → b ≡ true → c ≡ true → (a && (b && c)) ≡ true
three a b c e f g = rw (e, f, g) refl

module _ (plan : Plan) (few : IsOfFewer plan) where
  k12 : detectors_call_phases (full plan) ≡ detectors_call_phases plan
  k12 = all-longer (λ d. none_or (is_enabled plan) (call_phase plan d)) 1 plan.counts.vehicle_detectors VEHICLE_DETECTORS few.fewer.vehicle_detectors
      (λ d out. ap (none_or (is_enabled plan)) (no_call plan few d out))

  k13 : pedestrian_detectors_call_walks (full plan) ≡ pedestrian_detectors_call_walks plan
  k13 =
      all-longer (λ d. none_or (serves_pedestrians plan) (pedestrian_call_phase plan d)) 1 plan.counts.pedestrian_detectors PEDESTRIAN_DETECTORS
      few.fewer.pedestrian_detectors (λ d out. ap (none_or (serves_pedestrians plan)) (no_walk_call plan few d out))

  k14 : included_phases_are_enabled (full plan) ≡ included_phases_are_enabled plan
  k14 =
      all-longer (λ o. names_enabled plan (plan.value OverlapIncludedPhases o)) 1 plan.counts.overlaps OVERLAPS few.fewer.overlaps
      (λ o out. names_none (is_enabled plan) (plan.value OverlapIncludedPhases o) (phases plan) (none_included plan few o out))

  k15 : preempts_are_concurrent (full plan) ≡ preempts_are_concurrent plan
  k15 =
      all-longer (has_concurrent_lists plan) 1 plan.counts.preempts PREEMPTS few.fewer.preempts
      (λ n out. three (names_concurrent plan (plan.value PreemptTrackPhase n)) (names_concurrent plan (plan.value PreemptDwellPhase n))
      (names_concurrent plan (plan.value PreemptExitPhase n))
      (concurrent_none plan (plan.value PreemptTrackPhase n) (no_track plan few n out))
      (concurrent_none plan (plan.value PreemptDwellPhase n) (no_dwell plan few n out))
      (concurrent_none plan (plan.value PreemptExitPhase n) (no_exit plan few n out)))

  k16 : preempts_dwell (full plan) ≡ preempts_dwell plan
  k16 =
      all-longer (dwells_or_is_empty plan) 1 plan.counts.preempts PREEMPTS few.fewer.preempts
      (λ n out. rw (no_track plan few n out, no_dwell plan few n out, no_exit plan few n out) refl)

  k21 : modifiers_are_right (full plan) ≡ modifiers_are_right plan
  k21 =
      all-longer (modifies_rightly plan) 1 plan.counts.overlaps OVERLAPS few.fewer.overlaps
      (λ o out. right o (names_none (is_enabled plan) (plan.value OverlapModifierPhases o) (phases plan) (no_modifiers plan few o out))
      (no_modifiers plan few o out))
    where
      or-true : (b : Bool) → (true && (b || true)) ≡ true
      or-true true = refl
      or-true false = refl

      right : (o : ℕ) → names_enabled plan (plan.value OverlapModifierPhases o) ≡ true → plan.value OverlapModifierPhases o ≡ 0 → modifies_rightly plan o ≡ true
      right o enabled none =
          ap₂ (λ (a : Bool) (v : ℕ). a && (not (plan.value OverlapType o == 0) || v == 0)) enabled none ∙ or-true (not (plan.value OverlapType o == 0))

  k28 : arrows_are_right (full plan) ≡ arrows_are_right plan
  k28 = all-longer (points_rightly plan) 1 plan.counts.overlaps OVERLAPS few.fewer.overlaps (λ o out. right o out)
    where
      right : (o : ℕ) → 1 + plan.counts.overlaps ≤ o → points_rightly plan o ≡ true
      right o out =
          ap (λ (t : ℕ). not (t == 2) || (not (includes_none plan o) && turns_alone plan o (first (is_modifier plan o) (phases plan)))) (no_type plan few o out)

  k29 : trails_are_right (full plan) ≡ trails_are_right plan
  k29 = all-longer (trails_rightly plan) 1 plan.counts.overlaps OVERLAPS few.fewer.overlaps (λ o out. right o out)
    where
      right : (o : ℕ) → 1 + plan.counts.overlaps ≤ o → trails_rightly plan o ≡ true
      right o out =
          ap₂ (λ (y g : ℕ). (y == 0 || nat_le 30 y) && (g == 0 || (not (y == 0) && plan.value OverlapType o == 0)))
          (no_trail_yellow plan few o out) (no_trail_green plan few o out)

  broken_by_phases-same : broken_by_phases (full plan) ≡ broken_by_phases plan
  unfolding broken_by_phases
  broken_by_phases-same =
      ap₂ (λ (a b : Bool).
      unless (yellows_are_long plan) K8
      (unless (gaps_can_reduce plan) K9
      (unless (maximums_reach_minimums plan) K10
      (unless (recalled_pedestrians_walk plan) K11
      (unless a K12
      (unless b K13
      None)))))) k12 k13

  broken_by_parts-same : broken_by_parts (full plan) ≡ broken_by_parts plan
  unfolding broken_by_parts
  broken_by_parts-same =
      ap₂ (λ (f : ℕ → ℕ → Bool) (g : Bool → ℕ → ℕ → Bool).
      unless (included_phases_are_enabled (full plan)) K14
      (unless (preempts_are_concurrent (full plan)) K15
      (unless (preempts_dwell (full plan)) K16
      (unless (patterns_are_whole plan) K17
      (unless (splits_hold_phases plan) K18
      (unless (each_pattern plan (λ n. some_and (f n) (split_of plan n))) K19
      (unless (each_pattern plan (λ n. some_and (λ s. some_and (g (leads_and_lags plan n) s) (split_of plan n)) (sequence_of plan n))) K20
      None)))))))
      (fun_ext (λ n. fun_ext (λ t. fills-same plan n t)))
      (fun_ext (λ apart. fun_ext (λ s. fun_ext (λ t. agree-same plan apart s t))))
      ∙ ap₂ (λ (a b : Bool). late plan a b (preempts_dwell (full plan))) k14 k15
      ∙ ap (late plan (included_phases_are_enabled plan) (preempts_are_concurrent plan)) k16

  broken_by_extensions-same : broken_by_extensions (full plan) ≡ broken_by_extensions plan
  unfolding broken_by_extensions
  broken_by_extensions-same =
      ap (λ (a : Bool).
      unless a K21
      (unless (limits_reach_minimums plan) K22
      (unless (permissive_times_end plan) K23
      None))) k21

  broken_by_overlaps-same : broken_by_overlaps (full plan) ≡ broken_by_overlaps plan
  unfolding broken_by_overlaps
  broken_by_overlaps-same = ap₂ (λ (a b : Bool). unless a K28 (unless b K29 None)) k28 k29

  pub first_broken-same : first_broken (full plan) ≡ first_broken plan
  unfolding first_broken
  first_broken-same =
      rw (
        broken_by_extensions-same,
        broken_by_overlaps-same,
        broken_by_parts-same,
        broken_by_phases-same,
        broken_by_rings-same plan,
        broken_by_schedule-same plan,
      ) refl
