-- Where the options of coordination are 0, each definition that reads one is the definition without it. For
-- `options_off_change_nothing`, and `texts_of_version_1_have_no_options`.
use Rattle.std.proofs.Common.{◌≡◌, ℕ, suc, zero, ◌+◌, ◌*◌, ◌%◌, ◌<◌, ◌==◌, nat_lt, Bool, true, false, not, ◌&&◌, ◌||◌, if◌then◌else◌, List, [], ◌∷◌, Option, Some, None, is_some, is_none, refl, arith, sym, ap, ◌∙◌}
use Rattle.std.specs.List.{list_all}
use Rattle.std.proofs.lemmas.Bool.{and_parts, true≢false}
use Rattle.std.proofs.lemmas.Bool.Decides.{nat_tests}
use Rattle.tsb_step.specs.tsb_types.Lists.{first, or_else, run_from}
use Rattle.tsb_step.specs.tsb_cells.Timer.{has_reached}
use Rattle.tsb_step.specs.tsb_plan.declared.object.Object.TheVariants.{PatternCycleTime}
use Rattle.tsb_step.specs.tsb_plan.Plan.{Plan, phases, is_enabled, ring_of, recycles_walk}
use Rattle.tsb_step.specs.tsb_plan.declared.plan.patterns.CorrectionMode.{CorrectionMode}
use Rattle.tsb_step.specs.tsb_plan.declared.plan.patterns.CorrectionMode.TheVariants.{AtOnce}
use Rattle.tsb_step.specs.tsb_plan.Parts.{floats, is_used, cycle, correction_mode, permissive_time, leads_and_lags, is_coordinated}
use Rattle.tsb_step.specs.tsb_plan.Running.{running, is_coordinated_now, split_in_effect, split_green, floating_in, floating_time, maximum_by_mode, pattern_maximum}
use Rattle.tsb_step.specs.tsb_rules.Consistent.{IsWhole}
use Rattle.tsb_step.specs.tsb_rules.PatternRules.{permissive_times_end}
use Rattle.tsb_step.specs.tsb_rules.Rules.{first_broken}
use Rattle.tsb_step.specs.tsb_objects.Instants.{is_coordinated_in, coordinated_in_ring, first_coordinated, recycles}
use Rattle.tsb_step.specs.tsb_coord.Coordinated.{residue_of_difference, counter, reference, instant_by, force_off, is_same_from_both, is_pattern}
use Rattle.tsb_step.specs.tsb_coord.Clock.{shift}
use Rattle.tsb_step.specs.tsb_coord.Correction.{ahead_with, begun, selected_correction}
use Rattle.tsb_laws.specs.Options.{in_step_with}
use Rattle.tsb_step.proofs.tsb_coord.LocalLemmas.{IsFirst, first_passes, its_parts, ends_agree, IsReference, reference_is}
use Rattle.tsb_step.specs.tsb_phase.Phase.{Given, GreenHeld}
use Rattle.tsb_step.specs.tsb_phase.Green.{conflict_timer, has_reached_some, acting_maximum, has_maxed_out, forced_latch}
use Rattle.tsb_step.specs.tsb_phase.DynamicMaximum.{maximum_in_use}

-- ## No green floats

floating_none : (plan : Plan) (o : Option ℕ) (p : ℕ) → floats plan ≡ false → floating_in plan o p ≡ None
floating_none plan None p off = refl
floating_none plan (Some t) p off =
    ap (λ (b : Bool). if b && not (is_coordinated plan t p) then Some (split_green plan t p) else None) off

pub never_floats : (plan : Plan) (runs : Option ℕ) (p : ℕ) → floats plan ≡ false → floating_time plan runs p ≡ None
never_floats plan runs p off = floating_none plan (split_in_effect plan runs) p off

pub latched_by_instant : (plan : Plan) (given : Given) (p : ℕ) (held : GreenHeld) → floating_time plan given.runs p ≡ None →
    forced_latch plan given p held ≡ (is_some given.runs && (is_none given.service && (given.conflict p && (given.forced p || held.forced))))
latched_by_instant plan given p held none =
    ap (λ (o : Option ℕ). is_some given.runs &&
    (is_none given.service && (given.conflict p && (given.forced p || (has_reached_some held.green o || held.forced))))) none

-- ## No maximum acts in a pattern

pub never_in_patterns : (plan : Plan) (runs : Option ℕ) (p : ℕ) → maximum_by_mode plan p ≡ None → pattern_maximum plan runs p ≡ None
never_in_patterns plan runs p none = go (is_coordinated_now plan runs p)
  where
    go : (b : Bool) → (if b then None else maximum_by_mode plan p) ≡ None
    go true = refl
    go false = none

pub freely_alone : (plan : Plan) (given : Given) (p : ℕ) (held : GreenHeld) (running : Option ℕ) → maximum_by_mode plan p ≡ None →
    has_maxed_out plan given p held running ≡ (is_none given.runs && has_reached (conflict_timer given p held) (maximum_in_use plan p running))
freely_alone plan given p held running none = go given.runs
  where
    go : (o : Option ℕ) → has_reached_some (conflict_timer given p held) (acting_maximum plan o p running)
        ≡ (is_none o && has_reached (conflict_timer given p held) (maximum_in_use plan p running))
    go None = refl
    go (Some n) = ap (has_reached_some (conflict_timer given p held)) (never_in_patterns plan (Some n) p none)

-- ## No phase walks again

pub never_recycles : (plan : Plan) (runs local : Option ℕ) (p : ℕ) → recycles_walk plan p ≡ false → recycles plan runs local p ≡ false
never_recycles plan None local p off = refl
never_recycles plan (Some n) local p off = rw off refl

-- ## What is selected is in step at once

pub begins_at_once : (plan : Plan) (selected : Option ℕ) (now midnight : ℕ) (l : Option ℕ) → correction_mode plan ≡ AtOnce →
    selected_correction plan selected now midnight l ≡ in_step_with selected midnight
begins_at_once plan None now midnight l mode = refl
begins_at_once plan (Some n) now midnight None mode = refl
begins_at_once plan (Some n) now midnight (Some x) mode =
    ap (λ (m : CorrectionMode). begun now midnight (ahead_with m (residue_of_difference (cycle plan n) (x % cycle plan n) (counter plan n (now + shift (cycle plan n) midnight))))) mode

-- none of these is ahead
pub none_ahead : (selected : Option ℕ) (midnight : ℕ) → (in_step_with selected midnight).ahead ≡ 0
none_ahead None midnight = refl
none_ahead (Some n) midnight = refl

-- ## Rules K20 and K23

pub all_hold : (test : ℕ → Bool) (ns : List ℕ) → ((n : ℕ) → test n ≡ true) → list_all test ns ≡ true
all_hold test [] each = refl
all_hold test (n ∷ ns) each = rw (each n) (all_hold test ns each)

-- a cycle that is not 0 is longer than no time at all
pub times_end : (plan : Plan) → ((n : ℕ) → permissive_time plan n ≡ 0) → permissive_times_end plan ≡ true
times_end plan none =
    all_hold (λ n. not (is_used plan n) || nat_lt (permissive_time plan n) (cycle plan n)) (run_from 1 16) (λ n. at n)
  where
    go : (seconds : ℕ) → (not (not (seconds == 0)) || nat_lt 0 (10 * seconds)) ≡ true
    go zero = refl
    go (suc n) = grind (arith, nat_tests)

    at : (n : ℕ) → (not (is_used plan n) || nat_lt (permissive_time plan n) (cycle plan n)) ≡ true
    at n = rw (none n) (go (plan.value PatternCycleTime n))

-- ## Instants are counted from the first coordinated phase

-- where one passes a test, one passes a weaker test
finds : (test weaker : ℕ → Bool) (ps : List ℕ) (c : ℕ) → ((p : ℕ) → test p ≡ true → weaker p ≡ true) → first test ps ≡ Some c →
    first weaker ps ≡ None → ⊥
finds test weaker [] c passes found none = absurd cc
finds test weaker (p ∷ ps) c passes found none =
    go (test p) (weaker p) refl refl found none (λ (e : first test ps ≡ Some c) (f : first weaker ps ≡ None). finds test weaker ps c passes e f)
  where
    go : (a b : Bool) → test p ≡ a → weaker p ≡ b → (if a then Some p else first test ps) ≡ Some c →
        (if b then Some p else first weaker ps) ≡ None → (first test ps ≡ Some c → first weaker ps ≡ None → ⊥) → ⊥
    go a true e f found none later = absurd cc
    go true false e f found none later = true≢false (sym (passes p e) ∙ f)
    go false false e f found none later = later found none

coordinated_of_ring : (plan : Plan) (n r p : ℕ) → is_coordinated_in plan n r p ≡ true → is_coordinated_now plan (Some n) p ≡ true
coordinated_of_ring plan n r p h = (and_parts (is_coordinated_now plan (Some n) p) (ring_of plan p == r) h).0

-- the first is a coordinated phase
first_is : (plan : Plan) (n c : ℕ) → first_coordinated plan n ≡ Some c → IsReference plan n c
first_is plan n c found =
    let it : IsFirst (is_coordinated_now plan (Some n)) 1 plan.phase_count c =
    first_passes (is_coordinated_now plan (Some n)) 1 plan.phase_count c found in
    let below : c < 1 + plan.phase_count = it.below in
    record { is_phase = record { from_one = it.from; within = omega (arith, below) }; is_one = it.passes }

-- from the coordinated phase of ring 1 or from the first is the same
same_instant : (plan : Plan) → first_broken plan ≡ None → (n p : ℕ) → IsWhole plan n → leads_and_lags plan n ≡ false →
    instant_by plan n (reference plan n) p ≡ instant_by plan n (first_coordinated plan n) p
same_instant plan none n p parts even = go (coordinated_in_ring plan n 1) (first_coordinated plan n) refl refl
  where
    go : (a b : Option ℕ) → coordinated_in_ring plan n 1 ≡ a → first_coordinated plan n ≡ b →
        instant_by plan n (or_else a b) p ≡ instant_by plan n b p
    go None b own any = refl
    go (Some c) None own any =
        absurd (finds (is_coordinated_in plan n 1) (is_coordinated_now plan (Some n)) (phases plan) c (coordinated_of_ring plan n 1) own any)
    go (Some c) (Some d) own any =
        let one : IsReference plan n c = reference_is plan n c (ap (λ (o : Option ℕ). or_else o (first_coordinated plan n)) own) in
        let other : IsReference plan n d = first_is plan n d any in
        ap Some (is_same_from_both plan n c d p (ends_agree plan none n c d parts even one.is_phase other.is_phase one.is_one other.is_one))

pub counted_from_first : (plan : Plan) → first_broken plan ≡ None → (n p : ℕ) → is_pattern plan n ≡ true → leads_and_lags plan n ≡ false →
    force_off plan (Some n) p ≡ (if is_enabled plan p then instant_by plan n (first_coordinated plan n) p else None)
unfolding force_off
counted_from_first plan none n p is even =
    ap (λ (o : Option ℕ). if is_enabled plan p then o else None) (same_instant plan none n p (its_parts plan none n is) even)
