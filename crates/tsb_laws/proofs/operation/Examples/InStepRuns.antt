-- Runs that meet the premises of the laws of the local counter in step, and mistakes that these laws refuse.
use Rattle.std.proofs.Common.{◌≡◌, ◌≢◌, ℕ, zero, suc, ◌+◌, ◌-◌, ◌%◌, ◌≤◌, true, List, [], ◌∷◌, ◌++◌, Option, Some, None, refl, sym, ap, subst, arith, ◌∙◌, inl}
use Rattle.tsb_step.specs.tsb_types.Sets.{all_off}
use Rattle.tsb_step.specs.tsb_plan.declared.object.Object.{Object}
use Rattle.tsb_step.specs.tsb_plan.declared.object.Object.TheVariants.{PatternOffsetTime, CoordCorrectionMode, CoordCorrectionLimit}
use Rattle.tsb_step.specs.tsb_plan.declared.plan.patterns.CorrectionMode.TheVariants.{AtOnce, AddOnly}
use Rattle.tsb_step.specs.tsb_plan.Objects.{greatest}
use Rattle.tsb_step.specs.tsb_plan.Parts.{cycle, correction_mode, correction_limit}
use Rattle.tsb_step.specs.tsb_plan.Plan.{Plan, all_counts, with_values}
use Rattle.tsb_step.specs.tsb_plan.Quad.{quad}
use Rattle.tsb_step.specs.tsb_rules.Rules.{first_broken}
use Rattle.tsb_step.specs.tsb_coord.declared.correction.Correction.{Correction}
use Rattle.tsb_step.specs.tsb_coord.Coordinated.{counter, residue_of_difference, is_pattern}
use Rattle.tsb_step.specs.tsb_coord.Coordinated as coordination
use Rattle.tsb_step.specs.tsb_coord.Correction.{lost, ahead_in, is_in_step, begun}
use Rattle.tsb_step.specs.tsb_coord.Laws.{IsLongEnough}
use Rattle.tsb_step.specs.declared.inputs.Input.{Input}
use Rattle.tsb_step.specs.declared.inputs.Input.TheVariants.{Tick, Pattern}
use Rattle.tsb_step.specs.State.{State}
use Rattle.tsb_step.specs.Signs.{local, IsInStep}
use Rattle.tsb_step.specs.Step.{step}
use Rattle.tsb_step.specs.Runs.{replay, AreTaken}
use Rattle.tsb_step.specs.Laws.{IsConsistent}
use Rattle.tsb_step.proofs.Examples.Scenes.{opened}
use Rattle.tsb_laws.specs.CoordinatedGreens.{HasGoneOn}
use Rattle.tsb_laws.specs.InStep.{selects_none, BeginsInStep, keeps_in_step, HasComeSince}
use Rattle.tsb_laws.proofs.safety.Examples.PlanFits.{Fits, values_fit, quad_fits, consistent}
use Rattle.tsb_laws.proofs.safety.Examples.TickRuns.{ticks, now_then, plan_then, pattern_then, correction_then, all_taken}

-- ## Pattern 2 is selected in tick 1 while pattern 1 runs: 10 ticks ahead, it loses one in 3 ticks by add only

-- the offset of pattern 1 is 0, and that of pattern 2 is 10 ticks
abbrev adding_values : List (Object × ℕ × ℕ)
adding_values = (CoordCorrectionMode, 1, 3) ∷ (CoordCorrectionLimit, 1, 50) ∷ (PatternOffsetTime, 2, 1) ∷ []

unfoldable adding : Plan
adding = with_values quad adding_values

adding_fits : Fits greatest adding.value
unfolding adding
adding_fits = values_fit greatest adding_values quad refl (quad_fits greatest refl refl)

adding_count : (adding.phase_count ≡ 16) × (adding.counts ≡ all_counts)
unfolding quad adding
adding_count = (refl, refl)

adding_breaks_none : first_broken adding ≡ None
unfolding opened adding
adding_breaks_none = refl

adding_consistent : IsConsistent adding
adding_consistent = consistent greatest adding adding_count adding_breaks_none adding_fits

is_add_only : correction_mode adding ≡ AddOnly
unfolding opened adding
is_add_only = refl

not_at_once : correction_mode adding ≢ AtOnce
not_at_once at_once = apart (sym is_add_only ∙ at_once)
  where
    apart : AddOnly ≡ AtOnce → ⊥
    apart same = absurd cc

-- ## Selected in free operation

-- pattern 2 in free operation, and a tick later
free_then : BeginsInStep (replay adding [])
unfolding opened
free_then = inl refl

record ASelection (plan : Plan) (is later : List Input) (n : ℕ) : Type 0 where
  other : correction_mode (replay plan is).plan ≢ AtOnce
  begins : BeginsInStep (replay plan is)
  none : HasGoneOn selects_none plan (Pattern n ∷ is) later

a_selection : ASelection adding [] (Tick all_off ∷ []) 2
a_selection = record { other = not_at_once; begins = free_then; none = (tt, refl) }

-- a pattern that begins at local 0
abbrev from_zero : State → ℕ → Correction
from_zero s n = begun s.now 0 (residue_of_difference (cycle s.plan n) 0 (counter s.plan n s.now))

would_be_ahead : ahead_in adding (Some 2) (from_zero (replay adding []) 2) 0 ≡ 10
unfolding opened adding
would_be_ahead = refl

-- ## Selected while another runs

abbrev started : List Input
started = Tick all_off ∷ Pattern 1 ∷ []

abbrev chosen : List Input
chosen = Pattern 2 ∷ started

chosen_taken : AreTaken adding chosen
unfolding opened adding
chosen_taken = (((tt, refl), refl), refl)

-- it is selected at tick 1, at which the local counter is 1
record AtSelection : Type 0 where
  used : is_pattern (replay adding started).plan 2 ≡ true
  plan_is : (replay adding started).plan ≡ adding
  here : local (replay adding started) ≡ Some 1
  goes_on : local (replay adding chosen) ≡ Some 1
  jumps : coordination.local (replay adding started).plan (replay adding started).now (Some 2) ≡ Some 791
  correction_is : (replay adding chosen).correction ≡ record { since = 1; ahead = 10; midnight = 0 }
  then_is : (replay adding chosen).plan ≡ adding
  pattern_is : (replay adding chosen).pattern ≡ Some 2
  now_is : (replay adding chosen).now ≡ 1

at_selection : AtSelection
unfolding opened adding
at_selection = record {
  used = refl;
  plan_is = refl;
  here = refl;
  goes_on = refl;
  jumps = refl;
  correction_is = refl;
  then_is = refl;
  pattern_is = refl;
  now_is = refl;
}

record AnotherSelection (plan : Plan) (is : List Input) (n l : ℕ) : Type 0 where
  consistent : IsConsistent plan
  taken : AreTaken plan is
  known : is_pattern (replay plan is).plan n ≡ true
  other : correction_mode (replay plan is).plan ≢ AtOnce
  here : local (replay plan is) ≡ Some l

another_selection : AnotherSelection adding started 2 1
another_selection = record {
  consistent = adding_consistent;
  taken = chosen_taken.0;
  known = at_selection.used;
  other = λ e. not_at_once (sym (ap correction_mode at_selection.plan_is) ∙ e);
  here = at_selection.here;
}

goes_on_from_1 : local (step (replay adding started) (Pattern 2)) ≡ Some 1
goes_on_from_1 = at_selection.goes_on

-- a counter that is in step at once whatever the mode is
abbrev jumps : State → ℕ → Option ℕ
jumps s n = coordination.local s.plan s.now (Some n)

would_jump : jumps (replay adding started) 2 ≡ Some 791
would_jump = at_selection.jumps

-- ## 30 ticks later it has come into step

-- the run so many ticks later
abbrev after : ℕ → List Input
after k = ticks all_off k ++ chosen

in_time : (k : ℕ) → k ≤ 900 → (replay adding chosen).now + k ≤ 1000
in_time k low = let now = at_selection.now_is in omega (arith, now, low)

taken_then : (k : ℕ) → k ≤ 900 → AreTaken adding (after k)
taken_then k low = all_taken adding all_off chosen k chosen_taken (in_time k low)

ticked : (k : ℕ) → (replay adding (after k)).now ≡ k + 1
ticked k = let now = at_selection.now_is in let later = now_then adding all_off chosen k in omega (arith, now, later)

in_step_is : (k : ℕ) → is_in_step adding (Some 2) (record { since = 1; ahead = 10; midnight = 0 }) (k + 1) ≡ true → IsInStep (replay adding (after k))
in_step_is k there =
    ap (λ (x : Plan). is_in_step x s.pattern s.correction s.now) (plan_then adding all_off chosen k ∙ at_selection.then_is)
    ∙ (ap (λ (o : Option ℕ). is_in_step adding o s.correction s.now) (pattern_then adding all_off chosen k ∙ at_selection.pattern_is)
    ∙ (ap (λ (c : Correction). is_in_step adding (Some 2) c s.now) (correction_then adding all_off chosen k ∙ at_selection.correction_is)
    ∙ (ap (λ (t : ℕ). is_in_step adding (Some 2) (record { since = 1; ahead = 10; midnight = 0 }) t) (ticked k) ∙ there)))
  where
    s : State
    s = replay adding (after k)

comes_into_step : is_in_step adding (Some 2) (record { since = 1; ahead = 10; midnight = 0 }) 31 ≡ true
unfolding opened adding
comes_into_step = refl

record AStep (plan : Plan) (is : List Input) (i : Input) : Type 0 where
  consistent : IsConsistent plan
  taken : AreTaken plan is
  keeps : keeps_in_step i ≡ true
  in_step : IsInStep (replay plan is)

a_step : AStep adding (after 30) (Tick all_off)
a_step = record {
  consistent = adding_consistent;
  taken = taken_then 30 (omega arith);
  keeps = refl;
  in_step = in_step_is 30 comes_into_step;
}

-- a counter that goes on to lose by its limit, round the cycle
abbrev loses_on : Plan → ℕ → Correction → ℕ → ℕ
loses_on plan n c t = residue_of_difference (cycle plan n) c.ahead (lost (correction_limit plan) (t - c.since))

would_fall_behind : loses_on adding 2 (record { since = 1; ahead = 10; midnight = 0 }) 34 ≡ 799
unfolding opened adding
would_fall_behind = refl

-- ## On its way into step

-- its counter has lost all in 30 ticks, by a third of a tick in each
limit_is : correction_limit adding ≡ 50
unfolding opened adding
limit_is = refl

only_ticks : (k : ℕ) → HasGoneOn (λ s i. keeps_in_step i) adding chosen (ticks all_off k)
only_ticks zero = tt
only_ticks (suc k) = (only_ticks k, refl)

had_time : (plan : Plan) (c : Correction) (now begin : ℕ) → plan ≡ adding → c ≡ record { since = 1; ahead = 10; midnight = 0 } → now ≡ 31 → begin ≡ 1 →
    IsLongEnough (correction_mode plan) plan 2 c (now - begin)
had_time plan c now begin e f g h = rw e (rw f (rw g (rw h (rw is_add_only all))))
  where
    all : IsLongEnough AddOnly adding 2 (record { since = 1; ahead = 10; midnight = 0 }) (31 - 1)
    all = rw limit_is (omega arith)

record AWay (plan : Plan) (is later : List Input) (n : ℕ) : Type 0 where
  consistent : IsConsistent plan
  taken : AreTaken plan (later ++ (Pattern n ∷ is))
  other : correction_mode (replay plan (Pattern n ∷ is)).plan ≢ AtOnce
  come : HasComeSince plan is later n

a_way_into_step : AWay adding started (ticks all_off 30) 2
a_way_into_step = record {
  consistent = adding_consistent;
  taken = taken_then 30 (omega arith);
  other = λ e. not_at_once (sym (ap correction_mode at_selection.then_is) ∙ e);
  come = record {
    used = ap (λ (p : Plan). is_pattern p 2) (at_selection.then_is ∙ sym at_selection.plan_is) ∙ at_selection.used;
    limited = subst (λ (p : Plan). correction_limit p ≤ 50) (sym at_selection.then_is) (rw limit_is (omega arith));
    kept = only_ticks 30;
    long = had_time (replay adding chosen).plan (replay adding chosen).correction (replay adding (after 30)).now (replay adding chosen).now
        at_selection.then_is at_selection.correction_is (ticked 30) at_selection.now_is;
  };
}

-- a counter that goes on as it began, and loses nothing
abbrev loses_nothing : Plan → ℕ → Correction → ℕ → ℕ
loses_nothing plan n c t = c.ahead % cycle plan n

would_stay_ahead : loses_nothing adding 2 (record { since = 1; ahead = 10; midnight = 0 }) 31 ≡ 10
unfolding opened adding
would_stay_ahead = refl
