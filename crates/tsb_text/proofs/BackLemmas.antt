-- What is kept of inputs goes back with them to a tick.
use Rattle.std.proofs.Common.{suc, ◌≡◌, ◌∙◌, ℕ, ◌+◌, ◌<◌, ◌≤◌, ◌==◌, Bool, true, false, List, [], ◌∷◌, if◌then◌else◌, is_some, refl, sym, arith}
use Rattle.std.proofs.lemmas.Bool.{eqb-false, eqb-true}
use Rattle.tsb_types.specs.declared.row.Row.{Row}
use Rattle.tsb_step.specs.tsb_plan.Plan.{Plan}
use Rattle.tsb_step.specs.declared.inputs.Input.{Input}
use Rattle.tsb_step.specs.declared.inputs.Input.TheVariants.{Tick, Fault, Reset}
use Rattle.tsb_step.specs.Play.{back_to}
use Rattle.tsb_step.specs.Runs.{replay}
use Rattle.tsb_step.specs.Signs.{watched}
use Rattle.tsb_step.specs.State.{State, restarted}
use Rattle.tsb_step.specs.Step.{step}
use Rattle.tsb_step.proofs.ClearLemmas.{one_later}
use Rattle.tsb_step.proofs.WayLemmas.{ticks_are_counted}
use Rattle.tsb_text.specs.kept.Kept.{IsNoTick}

-- ## Tick numbers

-- an input that is no tick leaves the tick number
pub same-now : (s : State) (i : Input) → IsNoTick i → (step s i).now ≡ s.now
unfolding step watched
same-now s (Tick row) none = absurd none
same-now s (Fault lamp) none = go (is_some s.trip)
  where
    go : (b : Bool) → (if b then record s { lamp = lamp } else watched s (record s { lamp = lamp })).now ≡ s.now
    go true = refl
    go false = refl
same-now s Reset none = go (is_some s.trip)
  where
    go : (b : Bool) → (if b then restarted s else s).now ≡ s.now
    go true = refl
    go false = refl
same-now s i none = refl

pub no-less : (plan : Plan) (i : Input) (is : List Input) → (replay plan is).now ≤ (replay plan (i ∷ is)).now
no-less plan i is = (ticks_are_counted plan).on (replay plan is) i

pub reached : (plan : Plan) (t : ℕ) (is : List Input) → t ≤ (replay plan is).now → (replay plan (back_to plan t is)).now ≡ t
reached plan t [] le = let zero_is : (replay plan []).now ≡ 0 = (ticks_are_counted plan).begins in omega (arith, le, zero_is)
reached plan t (i ∷ is) le = go ((replay plan (i ∷ is)).now == t) refl (λ h. reached plan t is h)
  where
    go : (b : Bool) → ((replay plan (i ∷ is)).now == t) ≡ b → (t ≤ (replay plan is).now → (replay plan (back_to plan t is)).now ≡ t) →
        (replay plan (if b then i ∷ is else back_to plan t is)).now ≡ t
    go true e later = eqb-true (replay plan (i ∷ is)).now t e
    go false e later =
        let other : (replay plan (i ∷ is)).now ≡ t → ⊥ = eqb-false (replay plan (i ∷ is)).now t e in
        let one : (replay plan (i ∷ is)).now ≤ suc (replay plan is).now = (ticks_are_counted plan).by_one (replay plan is) i in
        later (omega (arith, le, one, other))

-- ## What is kept

-- of the inputs it is this; and it goes back to a tick, where nothing of it came later than the newest tick, and what the
-- newest input brought came later than any tick before it
module _ {X : Type 0} (plan : Plan) (of : List Input → X) (back : ℕ → X → X)
    (stays : (is : List Input) (t : ℕ) → (replay plan is).now ≤ t → back t (of is) ≡ of is)
    (newest-later : (t : ℕ) (i : Input) (is : List Input) → t ≤ (replay plan is).now → t < (replay plan (i ∷ is)).now → back t (of (i ∷ is)) ≡ back t (of is)) where
  -- a tick is taken back by going back to the tick before it
  pub undone-tick : (row : Row) (is : List Input) → back (replay plan is).now (of (Tick row ∷ is)) ≡ of is
  undone-tick row is =
      let next : (replay plan (Tick row ∷ is)).now ≡ (replay plan is).now + 1 = one_later (replay plan is) row in
      newest-later (replay plan is).now (Tick row) is (omega arith) (omega (arith, next)) ∙ stays is (replay plan is).now (omega arith)

  pub back-at : (t : ℕ) (is : List Input) → t ≤ (replay plan is).now → of (back_to plan t is) ≡ back t (of is)
  back-at t [] le = let zero_is : (replay plan []).now ≡ 0 = (ticks_are_counted plan).begins in sym (stays [] t (omega (arith, zero_is)))
  back-at t (i ∷ is) le = go ((replay plan (i ∷ is)).now == t) refl (λ h. back-at t is h)
    where
      go : (b : Bool) → ((replay plan (i ∷ is)).now == t) ≡ b → (t ≤ (replay plan is).now → of (back_to plan t is) ≡ back t (of is)) →
          of (if b then i ∷ is else back_to plan t is) ≡ back t (of (i ∷ is))
      go true e later = let here : (replay plan (i ∷ is)).now ≡ t = eqb-true (replay plan (i ∷ is)).now t e in sym (stays (i ∷ is) t (omega (arith, here)))
      go false e later =
          let other : (replay plan (i ∷ is)).now ≡ t → ⊥ = eqb-false (replay plan (i ∷ is)).now t e in
          let one : (replay plan (i ∷ is)).now ≤ suc (replay plan is).now = (ticks_are_counted plan).by_one (replay plan is) i in
          let on : t ≤ (replay plan is).now = omega (arith, le, one, other) in
          later on ∙ sym (newest-later t i is on (omega (arith, le, other)))
