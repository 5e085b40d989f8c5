-- In a plan whose options are 0, each definition that reads an option is the one without it. Proves
-- `options_off_change_nothing`.
use Rattle.std.proofs.Common.{◌≡◌, ℕ, ◌==◌, ◌+◌, ◌-◌, ◌*◌, ◌%◌, Bool, true, false, ◌&&◌, ◌||◌, if◌then◌else◌, Option, Some, None, refl, ap, ◌∙◌}
use Rattle.std.proofs.Math.Path.{fun_ext}
use Rattle.tsb_step.specs.tsb_plan.declared.object.Object.TheVariants.{CoordCorrectionMode}
use Rattle.tsb_step.specs.tsb_plan.declared.plan.patterns.CorrectionMode.TheVariants.{AtOnce}
use Rattle.tsb_step.specs.tsb_plan.Plan.{Plan, side_of, is_concurrent, recycles_walk}
use Rattle.tsb_step.specs.tsb_plan.Parts.{cycle, offset, offset_reference_of, forces_late, floats, permissive_time, leads_and_lags, split_of, sequence_of, correction_limit, correction_mode_of, correction_mode, overlaps_across_rings, is_anew}
use Rattle.tsb_step.specs.tsb_plan.Running.{running, maximum_by_mode}
use Rattle.tsb_step.specs.tsb_rules.PatternRules.{some_and, each_pattern, split_end, ends_with, coordinated_agree, coordinated_phases_agree}
use Rattle.tsb_step.specs.tsb_objects.Instants.{end_within, counted_to, offset_from, offset_in_effect}
use Rattle.tsb_step.specs.tsb_heads.Heads.{Shown}
use Rattle.tsb_step.specs.tsb_heads.Overlaps.{is_followed_in_ring, is_followed_across, is_followed}
use Rattle.tsb_step.specs.tsb_coord.Coordinated.{reference, local}
use Rattle.tsb_step.proofs.tsb_coord.CorrectionLemmas.{in_step_at_once, local_in_step, forces_in_step}
use Rattle.tsb_step.proofs.tsb_coord.LocalLemmas.{options_off}
use Rattle.tsb_laws.specs.Options.{HasNoOptions, OptionsOff}
use Rattle.tsb_laws.proofs.operation.pattern.OptionLemmas.{never_floats, latched_by_instant, never_in_patterns, freely_alone, never_recycles, begins_at_once, times_end, counted_from_first}

never_late : (plan : Plan) → HasNoOptions plan → forces_late plan ≡ false
never_late plan none = rw none.coord_force_mode refl

no_floating : (plan : Plan) → HasNoOptions plan → floats plan ≡ false
no_floating plan none = rw none.coord_force_mode refl

no_mode : (plan : Plan) (p : ℕ) → HasNoOptions plan → maximum_by_mode plan p ≡ None
no_mode plan p none = rw none.coord_maximum_mode refl

no_time : (plan : Plan) (n : ℕ) → HasNoOptions plan → permissive_time plan n ≡ 0
no_time plan n none = ap (λ (seconds : ℕ). 10 * seconds) (none.pattern_permissive_time n)

not_apart : (plan : Plan) (n : ℕ) → HasNoOptions plan → leads_and_lags plan n ≡ false
not_apart plan n none = ap (λ (value : ℕ). value == 1) (none.pattern_lead_lag n)

no_second_walk : (plan : Plan) (p : ℕ) → HasNoOptions plan → recycles_walk plan p ≡ false
no_second_walk plan p none = ap (λ (value : ℕ). value == 1) (none.phase_pedestrian_recycle p)

step_at_once : (plan : Plan) → HasNoOptions plan → correction_mode plan ≡ AtOnce
step_at_once plan none = go (correction_limit plan)
  where
    go : (limit : ℕ) → correction_mode_of limit (plan.value CoordCorrectionMode 1) ≡ AtOnce
    go limit = ap (λ (n : ℕ). correction_mode_of limit n) none.coord_correction_mode ∙ either (limit == 0)
      where
        either : (b : Bool) → (if b then AtOnce else AtOnce) ≡ AtOnce
        either true = refl
        either false = refl

ends_at_once : (plan : Plan) (n s t p q : ℕ) → HasNoOptions plan →
    ends_with plan (leads_and_lags plan n) s t p q
    ≡ (side_of plan p == side_of plan q && ((p == q || is_concurrent plan p q) && split_end plan s t p == split_end plan s t q))
ends_at_once plan n s t p q none = ap (λ (apart : Bool). ends_with plan apart s t p q) (not_apart plan n none)

agree_at_once : (plan : Plan) → HasNoOptions plan → coordinated_phases_agree plan
    ≡ each_pattern plan (λ n. some_and (λ s. some_and (coordinated_agree plan false s) (split_of plan n)) (sequence_of plan n))
agree_at_once plan none =
    ap (each_pattern plan) (fun_ext (λ n. ap (λ (apart : Bool). some_and (λ s. some_and (coordinated_agree plan apart s) (split_of plan n)) (sequence_of plan n))
    (not_apart plan n none)))

-- what is found without the option alone
alone : (own option other : Bool) → option ≡ false → (own || (option && other)) ≡ own
alone true option other off = refl
alone false option other off = rw off refl

in_ring_alone : (plan : Plan) (s : Shown) (o p : ℕ) → HasNoOptions plan → is_followed plan s o p ≡ is_followed_in_ring plan s o p
in_ring_alone plan s o p none =
    alone (is_followed_in_ring plan s o p) (overlaps_across_rings plan o) (is_followed_across plan s o p)
    (ap (λ (value : ℕ). value == 1) (none.overlap_across_rings o))

never_anew : (plan : Plan) (service : Option ℕ) → HasNoOptions plan → is_anew plan service ≡ false
never_anew plan None none = refl
never_anew plan (Some n) none = ap (λ (value : ℕ). value == 1) (none.preempt_chooses_anew n)

plain_offset : (plan : Plan) (n : ℕ) → HasNoOptions plan → offset_in_effect plan n ≡ offset plan n
plain_offset plan n none =
    ap (λ (value : ℕ). offset_from plan n (counted_to (offset_reference_of value) plan n) (end_within plan n (reference plan n))) none.coord_reference

pub options-off : (plan : Plan) → HasNoOptions plan → OptionsOff plan
options-off plan none = record {
  forced = λ t selected p. options_off plan t selected p (never_late plan none) (λ n. no_time plan n none);
  counted = λ consistent n p is. counted_from_first plan consistent n p is (not_apart plan n none);
  latched = λ given p held. latched_by_instant plan given p held (never_floats plan given.runs p (no_floating plan none));
  freely = λ given p held running_maximum. freely_alone plan given p held running_maximum (no_mode plan p none);
  acting = λ n p running_maximum. never_in_patterns plan (Some n) p (no_mode plan p none);
  ends = λ n s t p q. ends_at_once plan n s t p q none;
  coordinated = agree_at_once plan none;
  recycled = λ t selected p. never_recycles plan (running plan selected) (local plan t selected) p (no_second_walk plan p none);
  offsets = λ n t. ap (λ (o : ℕ). (t + cycle plan n - o) % cycle plan n) (plain_offset plan n none);
  stepped = λ selected c t. in_step_at_once plan selected c t (step_at_once plan none);
  begun = λ selected now midnight l. begins_at_once plan selected now midnight l (step_at_once plan none);
  counting = λ selected c t. local_in_step plan selected c t (in_step_at_once plan selected c t (step_at_once plan none));
  forcing = λ selected c t p. forces_in_step plan selected c t p (in_step_at_once plan selected c (t - 1) (step_at_once plan none));
  permissive = times_end plan (λ n. no_time plan n none);
  followed = λ s o p. in_ring_alone plan s o p none;
  kept = λ service. never_anew plan service none;
}
