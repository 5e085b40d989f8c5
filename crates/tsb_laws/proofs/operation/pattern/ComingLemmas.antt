-- A pattern that is selected while another runs comes into step: the correction that it began with stays, with plan and
-- pattern, over inputs that neither select a pattern nor commit, until a reset of a trip has it in step. Proves
-- `counters_are_in_step`.
use Rattle.std.proofs.Common.{◌≡◌, ℕ, ◌+◌, ◌-◌, ◌<◌, ◌≤◌, ◌%◌, Bool, true, false, if◌then◌else◌, List, [], ◌∷◌, ◌++◌, Option, Some, None, ◌⊎◌, is_some, refl, sym, ap, subst, arith, ◌∙◌, inl, inr}
use Rattle.std.proofs.Math.Nat.{mod-lt}
use Rattle.std.proofs.lemmas.Bool.{cases_eq, false≢true}
use Rattle.tsb_step.specs.tsb_types.declared.lamp.Lamp.{Lamp}
use Rattle.tsb_step.specs.tsb_plan.declared.plan.patterns.CorrectionMode.{CorrectionMode}
use Rattle.tsb_step.specs.tsb_plan.declared.plan.patterns.CorrectionMode.TheVariants.{AtOnce, Dwell, ShortWay, AddOnly}
use Rattle.tsb_step.specs.tsb_plan.Plan.{Plan}
use Rattle.tsb_step.specs.tsb_plan.Parts.{cycle, offset, correction_mode, correction_limit}
use Rattle.tsb_step.specs.tsb_rules.Rules.{first_broken}
use Rattle.tsb_step.specs.tsb_coord.declared.correction.Correction.{Correction}
use Rattle.tsb_step.specs.tsb_coord.Coordinated.{counter, residue_of_difference, is_pattern}
use Rattle.tsb_step.specs.tsb_coord.Clock.{midnight_at, shift}
use Rattle.tsb_step.specs.tsb_coord.Correction.{is_in_step, ahead_with, ahead_from, begun, selected_correction}
use Rattle.tsb_step.specs.tsb_coord.Laws.{IsLongEnough}
use Rattle.tsb_step.proofs.tsb_coord.CorrectionLemmas.{always_in_step, begun_none, begun_some, comes_into_step as comes_by_clock}
use Rattle.tsb_step.proofs.tsb_coord.LocalLemmas.{its_parts}
use Rattle.tsb_step.specs.declared.inputs.Input.{Input}
use Rattle.tsb_step.specs.declared.inputs.Input.TheVariants as inputs
use Rattle.tsb_step.specs.declared.inputs.Input.TheVariants.{Pattern}
use Rattle.tsb_step.specs.State.{State, restarted}
use Rattle.tsb_step.specs.Signs.{local, watched, IsInStep}
use Rattle.tsb_step.specs.Step.{with_lamp, reset, step}
use Rattle.tsb_step.specs.Runs.{replay, AreTaken}
use Rattle.tsb_step.specs.Laws.{IsConsistent}
use Rattle.tsb_step.proofs.ClearLemmas.{plan_stays, pattern_stays, correction_stays}
use Rattle.tsb_step.proofs.GoodLemmas.{good_run}
use Rattle.tsb_laws.specs.CoordinatedGreens.{HasGoneOn}
use Rattle.tsb_laws.specs.InStep.{keeps_in_step, HasComeSince}
use Rattle.tsb_laws.proofs.safety.StretchLemmas.{taken_before}
use Rattle.tsb_laws.proofs.operation.pattern.SelectionLemmas.{is_selected, once_so}

-- ## As far ahead as a selection finds it

-- it is in step, or has come since this tick from less than a cycle ahead
abbrev IsBegun : Plan → ℕ → ℕ → Correction → Type 0
IsBegun plan n now c = (c.ahead ≡ 0) ⊎ ((c.since ≡ now) × (c.ahead < cycle plan n))

below_with : (mode : CorrectionMode) (a m : ℕ) → a < m → ahead_with mode a < m
below_with AtOnce a m low = omega (arith, low)
below_with Dwell a m low = low
below_with ShortWay a m low = low
below_with AddOnly a m low = low

ahead_below : (plan : Plan) → first_broken plan ≡ None → (n now : ℕ) (l : Option ℕ) → is_pattern plan n ≡ true → ahead_from plan n now l < cycle plan n
ahead_below plan none n now None known = let below : offset plan n < cycle plan n = (its_parts plan none n known).below in omega (arith, below)
ahead_below plan none n now (Some l) known =
    let below : offset plan n < cycle plan n = (its_parts plan none n known).below in
    let some : 0 < cycle plan n = omega (arith, below) in
    below_with (correction_mode plan) (residue_of_difference (cycle plan n) (l % cycle plan n) (counter plan n now)) (cycle plan n)
    (mod-lt (l % cycle plan n + (cycle plan n - counter plan n now % cycle plan n)) some)

begun_below : (plan : Plan) (n now midnight a : ℕ) → a < cycle plan n → IsBegun plan n now (begun now midnight a)
begun_below plan n now midnight a low =
    elim (cases_eq a 0) [
      | inl none ↦ inl (ap (λ (c : Correction). c.ahead) (begun_none now midnight a none))
      | inr some ↦ (let is = begun_some now midnight a some in
          inr (ap (λ (c : Correction). c.since) is, subst (λ (x : ℕ). x < cycle plan n) (sym (ap (λ (c : Correction). c.ahead) is)) low))
    ]

-- ## Over an input

-- plan, pattern and correction are as they were
record Keeps (s after : State) : Type 0 where
  plan : after.plan ≡ s.plan
  pattern : after.pattern ≡ s.pattern
  correction : after.correction ≡ s.correction

-- they are, or the counter is in step
abbrev Comes : State → State → Type 0
Comes s after = Keeps s after ⊎ IsInStep after

same : (s : State) → Keeps s s
same s = record { plan = refl; pattern = refl; correction = refl }

lit_keeps : (s : State) (lamp : Option Lamp) → Keeps s (with_lamp lamp s)
unfolding watched
lit_keeps s lamp = go (is_some s.trip)
  where
    go : (b : Bool) → Keeps s (if b then record s { lamp = lamp } else watched s (record s { lamp = lamp }))
    go true = record { plan = refl; pattern = refl; correction = refl }
    go false = record { plan = refl; pattern = refl; correction = refl }

reset_comes : (s : State) → Comes s (reset s)
reset_comes s = go (is_some s.trip)
  where
    go : (b : Bool) → Comes s (if b then restarted s else s)
    go true = inr refl
    go false = inl (same s)

other_comes : (s : State) (i : Input) → keeps_in_step i ≡ true → Comes s (step s i)
unfolding step
other_comes s (inputs.Tick row) h = inl (record { plan = plan_stays s row; pattern = pattern_stays s row; correction = correction_stays s row })
other_comes s (inputs.Pattern n) h = absurd (false≢true h)
other_comes s (inputs.Clock m) h = absurd (false≢true h)
other_comes s (inputs.Commit station) h = absurd (false≢true h)
other_comes s (inputs.Fault lamp) h = inl (lit_keeps s lamp)
other_comes s inputs.Reset h = reset_comes s
other_comes s i h = inl (record { plan = refl; pattern = refl; correction = refl })

-- ## Over a stretch

onward : (s t u : State) → Keeps s t → Keeps t u → Keeps s u
onward s t u one two = record { plan = two.plan ∙ one.plan; pattern = two.pattern ∙ one.pattern; correction = two.correction ∙ one.correction }

comes_later : (plan : Plan) (base later : List Input) → HasGoneOn (λ s i. keeps_in_step i) plan base later → Comes (replay plan base) (replay plan (later ++ base))
comes_later plan base [] gone = inl (same (replay plan base))
comes_later plan base (i ∷ later) gone =
    elim (comes_later plan base later gone.0) [
      | inr there ↦ inr (once_so (replay plan (later ++ base)) i gone.1 there)
      | inl kept ↦ elim (other_comes (replay plan (later ++ base)) i gone.1) [
        | inr there ↦ inr there
        | inl kept_now ↦ inl (onward (replay plan base) (replay plan (later ++ base)) (replay plan (i ∷ (later ++ base))) kept kept_now)
      ]
    ]

-- ## At the selection

record Begins (s : State) (n : ℕ) : Type 0 where
  pattern : s.pattern ≡ Some n
  begun : IsBegun s.plan n s.now s.correction

begins : (s : State) (n : ℕ) → first_broken s.plan ≡ None → is_pattern s.plan n ≡ true → Begins (step s (Pattern n)) n
unfolding step
begins s n sound known = record {
  pattern = is_selected s.plan n known;
  begun = (let midnight : ℕ = midnight_at s.start_moment s.now in
      let t : ℕ = s.now + shift (cycle s.plan n) midnight in
      subst (λ (o : Option ℕ). IsBegun s.plan n s.now (selected_correction s.plan o s.now midnight (local s))) (sym (is_selected s.plan n known))
      (begun_below s.plan n s.now midnight (ahead_from s.plan n t (local s)) (ahead_below s.plan sound n t (local s) known)));
}

-- the plan in effect is as it was
same_plan : (s : State) (n : ℕ) → (step s (Pattern n)).plan ≡ s.plan
unfolding step
same_plan s n = refl

-- ## In time

in_time : (s after : State) (n : ℕ) → first_broken s.plan ≡ None → is_pattern s.plan n ≡ true → correction_limit s.plan ≤ 50 → Begins s n → Keeps s after →
    IsLongEnough (correction_mode s.plan) s.plan n s.correction (after.now - s.now) → IsInStep after
in_time s after n sound known limited begin kept long =
    ap (λ (p : Plan). is_in_step p after.pattern after.correction after.now) kept.plan
    ∙ (ap (λ (o : Option ℕ). is_in_step s.plan o after.correction after.now) (kept.pattern ∙ begin.pattern)
    ∙ (ap (λ (c : Correction). is_in_step s.plan (Some n) c after.now) kept.correction ∙ there))
  where
    there : is_in_step s.plan (Some n) s.correction after.now ≡ true
    there = elim begin.begun [
      | inl none ↦ always_in_step s.plan (Some n) s.correction after.now none
      | inr ahead ↦ comes_by_clock s.plan sound n s.correction after.now known limited ahead.1
          (subst (λ (x : ℕ). IsLongEnough (correction_mode s.plan) s.plan n s.correction (after.now - x)) (sym ahead.0) long)
    ]

pub come_into_step : (plan : Plan) (is later : List Input) (n : ℕ) → IsConsistent plan → AreTaken plan (later ++ (Pattern n ∷ is)) →
    HasComeSince plan is later n → IsInStep (replay plan (later ++ (Pattern n ∷ is)))
come_into_step plan is later n ok taken come =
    elim (comes_later plan (Pattern n ∷ is) later come.kept) [
      | inr there ↦ there
      | inl kept ↦ in_time (replay plan (Pattern n ∷ is)) (replay plan (later ++ (Pattern n ∷ is))) n sound come.used come.limited
          (begins (replay plan is) n (ap first_broken (sym (same_plan (replay plan is) n)) ∙ sound)
          (ap (λ (p : Plan). is_pattern p n) (sym (same_plan (replay plan is) n)) ∙ come.used)) kept come.long
    ]
  where
    sound : first_broken (replay plan (Pattern n ∷ is)).plan ≡ None
    sound = (good_run plan (Pattern n ∷ is) ok (taken_before plan (Pattern n ∷ is) later taken)).plan.rules
