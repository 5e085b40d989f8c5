-- The preempt in service is one that the program has, however many a plan has.
use Rattle.std.proofs.Common.{◌≡◌, ◌∙◌, ℕ, ◌+◌, ◌==◌, Bool, true, false, if◌then◌else◌, List, [], ◌∷◌, Option, Some, None, is_some, refl, sym, ap, inl, inr}
use Rattle.std.proofs.lemmas.Bool.{and_parts, cases_Bool, eqb-true, true≢false}
use Rattle.tsb_step.specs.tsb_types.Lists.{first, run_from}
use Rattle.tsb_step.specs.tsb_types.declared.stage.Stage.{Stage}
use Rattle.tsb_step.proofs.tsb_types.FirstLemmas.{first-passes}
use Rattle.tsb_step.specs.tsb_plan.Plan.{Plan}
use Rattle.tsb_step.specs.tsb_preempt.Preempts.{Given, Preempts, as_read, beginning, going_on, has_input, is_preempt, new_service, next, requesting, requests, service_by, switch_refusal, with_switch}
use Rattle.tsb_step.specs.tsb_preempt.Service.{Service, begun, has_dwell, new_stage, service_as_read, with_stage}
use Rattle.tsb_step.specs.declared.inputs.Input.{Input}
use Rattle.tsb_step.specs.declared.inputs.Input.TheVariants as inputs
use Rattle.tsb_step.specs.Runs.{replay, AreTaken}
use Rattle.tsb_step.specs.Signs.{watched}
use Rattle.tsb_step.specs.State.{State, Tripped, restarted}
use Rattle.tsb_step.specs.Step.{step, verdict}
use Rattle.tsb_step.specs.Tick as tick
use Rattle.tsb_step.specs.Tick.{preempts_given}
use Rattle.tsb_controller.proofs.InputLemmas.{switched-one}
use Rattle.tsb_laws.proofs.way_back.PreemptLemmas.{may-begin}

-- no switch is on of what is no preempt, and the one in service is a preempt
pub record AreKnown (w : Preempts) : Type 0 where
  pub switch : (n : ℕ) → is_preempt n ≡ false → w.switch n ≡ false
  pub service : (x : Service) → w.service ≡ Some x → is_preempt x.preempt ≡ true

-- this service is the one that was made
made-known : (made x : Service) → is_preempt made.preempt ≡ true → Some made ≡ Some x → is_preempt x.preempt ≡ true
made-known made x h same = let here : made ≡ x = cc in rw (← here) h

-- ## In a tick

module _ (plan : Plan) (given : Given) (rows : (n : ℕ) → is_preempt n ≡ false → given.row n ≡ false) where
  -- only a preempt has an input, and so only a preempt requests
  input-known : (w : Preempts) (n : ℕ) → AreKnown w → has_input given w n ≡ true → is_preempt n ≡ true
  input-known w n known on = elim (cases_Bool (is_preempt n)) [
    | inl it ↦ it
    | inr out ↦ let off : has_input given w n ≡ false = rw (rows n out, known.switch n out) refl in absurd (true≢false (sym on ∙ off))
  ]

  begins-known : (w : Preempts) (m : ℕ) → AreKnown w → beginning plan given w ≡ Some m → is_preempt m ≡ true
  unfolding beginning requesting
  begins-known w m known h =
      let found : first (requests plan given w) (run_from 1 plan.counts.preempts) ≡ Some m =
      may-begin w.service (first (requests plan given w) (run_from 1 plan.counts.preempts)) m h in
      let asks : requests plan given w m ≡ true = first-passes (requests plan given w) (run_from 1 plan.counts.preempts) m found in
      input-known w m known (and_parts (has_input given w m) _ (and_parts (has_dwell plan m) _ asks).1).0

  service-known : (w : Preempts) (x : Service) → AreKnown w → new_service plan given w ≡ Some x → is_preempt x.preempt ≡ true
  unfolding new_service
  service-known w x known h = go (beginning plan given w) refl h
    where
      on : (y : Service) (o : Option Stage) → w.service ≡ Some y → with_stage plan given.interval y o ≡ Some x → is_preempt x.preempt ≡ true
      on y None e k = cc
      on y (Some stage) e k = made-known _ x (known.service y e) k

      goes : (o : Option Service) → w.service ≡ o → going_on plan given w o ≡ Some x → is_preempt x.preempt ≡ true
      goes None e k = cc
      goes (Some y) e k = on y (new_stage plan given.interval (has_input given w y.preempt) y) e k

      go : (o : Option ℕ) → beginning plan given w ≡ o → service_by plan given w o ≡ Some x → is_preempt x.preempt ≡ true
      go None e k = goes w.service refl k
      go (Some m) e k = made-known (begun plan m) x (begins-known w m known e) k

  read-known : (was : Preempts) → AreKnown was → AreKnown (as_read was)
  read-known was known = record { switch = known.switch; service = λ x e. go x was.service refl e }
    where
      go : (x : Service) (o : Option Service) → was.service ≡ o → service_as_read o ≡ Some x → is_preempt x.preempt ≡ true
      go x None e k = cc
      go x (Some y) e k = made-known _ x (known.service y e) k

  next-known : (was : Preempts) → AreKnown was → AreKnown (next plan given was)
  next-known was known = record {
    switch = known.switch;
    service = λ x e. service-known (as_read was) x (read-known was known) e;
  }

-- ## In a run

switched-known : (plan : Plan) (n : ℕ) (on : Bool) (was : Preempts) → switch_refusal plan n on ≡ None → AreKnown was → AreKnown (with_switch n on was)
switched-known plan n on was allowed known = record { switch = at; service = known.service }
  where
    at : (k : ℕ) → is_preempt k ≡ false → (if k == n then on else was.switch k) ≡ false
    at k out = elim (cases_Bool (k == n)) [
      | inl same ↦ absurd (true≢false (sym (switched-one plan n on allowed) ∙ ap is_preempt (sym (eqb-true k n same)) ∙ out))
      | inr other ↦ rw other (known.switch k out)
    ]

known-after : (s : State) (i : Input) → verdict s i ≡ None → AreKnown s.preempts → AreKnown (step s i).preempts
unfolding step verdict watched
known-after s (inputs.Tick row) taken known = go s.trip
  where
    go : (trip : Option Tripped) →
        AreKnown (if is_some trip then record s { now = s.now + 1 } else (if is_some trip then tick.next s row else watched s (tick.next s row))).preempts
    go None = next-known s.plan (preempts_given s row) (λ n out. rw out refl) s.preempts known
    go (Some t) = known
known-after s (inputs.Switch n on) taken known = switched-known s.plan n on s.preempts taken known
known-after s (inputs.Fault lamp) taken known = go s.trip
  where
    go : (trip : Option Tripped) → AreKnown (if is_some trip then record s { lamp = lamp } else watched s (record s { lamp = lamp })).preempts
    go None = known
    go (Some t) = known
known-after s inputs.Reset taken known = go s.trip
  where
    go : (trip : Option Tripped) → AreKnown (if is_some trip then restarted s else s).preempts
    go None = known
    go (Some t) = record { switch = known.switch; service = λ x e. cc }
known-after s i taken known = known

pub known-run : (plan : Plan) (is : List Input) → AreTaken plan is → AreKnown (replay plan is).preempts
known-run plan [] taken = record { switch = λ n out. refl; service = λ x e. cc }
known-run plan (i ∷ is) taken = known-after (replay plan is) i taken.1 (known-run plan is taken.0)
