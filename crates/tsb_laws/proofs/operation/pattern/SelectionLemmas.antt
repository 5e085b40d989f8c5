-- A pattern that is selected in free operation or with correction mode 0 is in step, and stays so; with another mode it
-- goes on from the local counter of the pattern that ran. Proves `selections_go_on`; for `counters_are_in_step` as
-- well.
use Rattle.std.proofs.Common.{◌≡◌, ◌≢◌, ℕ, ◌≤◌, ◌==◌, Bool, true, false, if◌then◌else◌, List, [], ◌∷◌, ◌++◌, Option, Some, None, is_some, refl, ap, arith, ◌∙◌, inl, inr}
use Rattle.std.proofs.lemmas.Bool.{eqb-true, false≢true}
use Rattle.tsb_step.specs.tsb_types.declared.lamp.Lamp.{Lamp}
use Rattle.tsb_step.specs.tsb_plan.Plan.{Plan}
use Rattle.tsb_step.specs.tsb_rules.Rules.{first_broken}
use Rattle.tsb_step.specs.tsb_coord.declared.correction.Correction.{Correction}
use Rattle.tsb_step.specs.tsb_coord.Coordinated.{local_in, is_pattern, selects}
use Rattle.tsb_step.specs.tsb_coord.Clock.{midnight_at}
use Rattle.tsb_step.specs.tsb_coord.Correction.{counted_tick, local_now, selected_correction}
use Rattle.tsb_step.proofs.tsb_coord.CorrectionLemmas.{always_in_step, goes_on}
use Rattle.tsb_step.proofs.tsb_coord.LocalLemmas.{in_range}
use Rattle.tsb_step.specs.declared.inputs.Input.{Input}
use Rattle.tsb_step.specs.declared.inputs.Input.TheVariants as inputs
use Rattle.tsb_step.specs.declared.inputs.Input.TheVariants.{Pattern}
use Rattle.tsb_step.specs.State.{State, restarted}
use Rattle.tsb_step.specs.Signs.{local, watched, IsInStep}
use Rattle.tsb_step.specs.Step.{with_lamp, reset, step}
use Rattle.tsb_step.specs.Runs.{replay, AreTaken}
use Rattle.tsb_step.specs.Laws.{IsConsistent}
use Rattle.tsb_step.proofs.ClearLemmas.{stays_in_step, correction_stays}
use Rattle.tsb_step.proofs.GoodLemmas.{good_run}
use Rattle.tsb_laws.specs.CoordinatedGreens.{HasGoneOn}
use Rattle.tsb_laws.specs.InStep.{selects_none, BeginsInStep, StaysInStep, GoesOnFrom}
use Rattle.tsb_laws.proofs.operation.pattern.OptionLemmas.{begins_at_once, none_ahead}

-- ## A selection in free operation, or with mode 0

from_none : (plan : Plan) (o : Option ℕ) (now midnight : ℕ) → (selected_correction plan o now midnight None).ahead ≡ 0
from_none plan None now midnight = refl
from_none plan (Some n) now midnight = refl

begins_in_step : (s : State) (n : ℕ) → BeginsInStep s → (step s (Pattern n)).correction.ahead ≡ 0
unfolding step
begins_in_step s n (inl free) =
    ap (λ (l : Option ℕ). (selected_correction s.plan (selects n) s.now (midnight_at s.start_moment s.now) l).ahead)
    (ap (λ (o : Option ℕ). local_in s.plan (counted_tick s.plan s.pattern s.correction s.now) o) free)
    ∙ from_none s.plan (selects n) s.now (midnight_at s.start_moment s.now)
begins_in_step s n (inr mode) =
    ap (λ (c : Correction). c.ahead) (begins_at_once s.plan (selects n) s.now (midnight_at s.start_moment s.now) (local s) mode)
    ∙ none_ahead (selects n) (midnight_at s.start_moment s.now)

lit_keeps : (s : State) (lamp : Option Lamp) → s.correction.ahead ≡ 0 → (with_lamp lamp s).correction.ahead ≡ 0
unfolding watched
lit_keeps s lamp e = go (is_some s.trip)
  where
    go : (b : Bool) → (if b then record s { lamp = lamp } else watched s (record s { lamp = lamp })).correction.ahead ≡ 0
    go true = e
    go false = e

reset_keeps : (s : State) → s.correction.ahead ≡ 0 → (reset s).correction.ahead ≡ 0
reset_keeps s e = go (is_some s.trip)
  where
    go : (b : Bool) → (if b then restarted s else s).correction.ahead ≡ 0
    go true = refl
    go false = e

-- no other input has anything come into step
none_begins : (s : State) (i : Input) → selects_none s i ≡ true → s.correction.ahead ≡ 0 → (step s i).correction.ahead ≡ 0
unfolding step
none_begins s (inputs.Tick row) h e = ap (λ (c : Correction). c.ahead) (correction_stays s row) ∙ e
none_begins s (inputs.Pattern n) h e = absurd (false≢true h)
none_begins s (inputs.Clock m) h e = absurd (false≢true h)
none_begins s (inputs.Fault lamp) h e = lit_keeps s lamp e
none_begins s inputs.Reset h e = reset_keeps s e
none_begins s i h e = e

goes_on_so : (plan : Plan) (base later : List Input) → (replay plan base).correction.ahead ≡ 0 → HasGoneOn selects_none plan base later →
    (replay plan (later ++ base)).correction.ahead ≡ 0
goes_on_so plan base [] e gone = e
goes_on_so plan base (i ∷ later) e gone = none_begins (replay plan (later ++ base)) i gone.1 (goes_on_so plan base later e gone.0)

pub selected_in_step : (plan : Plan) (is later : List Input) (n : ℕ) → BeginsInStep (replay plan is) →
    HasGoneOn selects_none plan (Pattern n ∷ is) later → IsInStep (replay plan (later ++ (Pattern n ∷ is)))
selected_in_step plan is later n begins gone =
    always_in_step after.plan after.pattern after.correction after.now
    (goes_on_so plan (Pattern n ∷ is) later (begins_in_step (replay plan is) n begins) gone)
  where
    after : State
    after = replay plan (later ++ (Pattern n ∷ is))

-- ## Once in step

lit_in_step : (s : State) (lamp : Option Lamp) → IsInStep s → IsInStep (with_lamp lamp s)
unfolding watched
lit_in_step s lamp stepped = go (is_some s.trip)
  where
    go : (b : Bool) → IsInStep (if b then record s { lamp = lamp } else watched s (record s { lamp = lamp }))
    go true = stepped
    go false = stepped

reset_in_step : (s : State) → IsInStep s → IsInStep (reset s)
reset_in_step s stepped = go (is_some s.trip)
  where
    go : (b : Bool) → IsInStep (if b then restarted s else s)
    go true = refl
    go false = stepped

pub once_so : (s : State) → StaysInStep s
unfolding step
once_so s (inputs.Tick row) h stepped = stays_in_step s (λ k. row) 1 stepped
once_so s (inputs.Pattern n) h stepped = absurd (false≢true h)
once_so s (inputs.Clock m) h stepped = absurd (false≢true h)
once_so s (inputs.Commit station) h stepped = absurd (false≢true h)
once_so s (inputs.Fault lamp) h stepped = lit_in_step s lamp stepped
once_so s inputs.Reset h stepped = reset_in_step s stepped
once_so s i h stepped = stepped

-- ## From where the local counter stands

-- a pattern of 1 to 16 is one that is selected
pub is_selected : (plan : Plan) (n : ℕ) → is_pattern plan n ≡ true → selects n ≡ Some n
is_selected plan n known = go (n == 0) refl
  where
    go : (b : Bool) → (n == 0) ≡ b → (if b then None else Some n) ≡ Some n
    go true e = let none : n ≡ 0 = eqb-true n 0 e in let one : 1 ≤ n = (in_range plan n known).0 in absurd (omega (arith, none, one))
    go false e = refl

goes_on_from : (s : State) → first_broken s.plan ≡ None → GoesOnFrom s
unfolding step
goes_on_from s sound n l known other here =
    ap (λ (o : Option ℕ). local_now s.plan o (selected_correction s.plan o s.now (midnight_at s.start_moment s.now) (local s)) s.now) (is_selected s.plan n known)
    ∙ (ap (λ (o : Option ℕ). local_now s.plan (Some n) (selected_correction s.plan (Some n) s.now (midnight_at s.start_moment s.now) o) s.now) here
    ∙ goes_on s.plan sound n s.now (midnight_at s.start_moment s.now) l known other)

-- ## After every run

pub selections_go_on : (plan : Plan) (is : List Input) → IsConsistent plan → AreTaken plan is → GoesOnFrom (replay plan is)
selections_go_on plan is ok taken = goes_on_from (replay plan is) (good_run plan is ok taken).plan.rules
