-- What the status lets phases wait for is what they wait for in the state.
use Rattle.std.proofs.Common.{◌≡◌, ℕ, ◌==◌, Bool, true, false, Option, Some, is_some, refl, sym, subst, ap, ◌∙◌}
use Rattle.tsb_step.specs.tsb_types.Sets.{is_phase}
use Rattle.tsb_step.specs.tsb_plan.Plan.{Plan, ring_of}
use Rattle.tsb_step.specs.tsb_plan.Running.{is_omitted_now, running}
use Rattle.tsb_coord.specs.Cells.{pattern_in}
use Rattle.tsb_phase.specs.declared.told.PhaseTimes.{PhaseTimes}
use Rattle.tsb_phase.specs.Cells.{phase_in}
use Rattle.tsb_phase.specs.Promises.{IsTold, TellsPhase}
use Rattle.tsb_preempt.specs.Service as preempts
use Rattle.tsb_ring.specs.Cells.{rings_in}
use Rattle.tsb_ring.specs.Rings.{Ring1, Ring2, other, own_ring}
use Rattle.tsb_step.specs.declared.waits.Wait.{Wait}
use Rattle.tsb_step.specs.Cells.{clock_at}
use Rattle.tsb_step.specs.Waits.{wait}
use Rattle.tsb_status.specs.declared.found.RingFound.{RingFound}
use Rattle.tsb_status.specs.declared.found.Service.{Service}
use Rattle.tsb_status.specs.declared.found.Waiting.{Waiting}
use Rattle.tsb_status.specs.Told.{waiting_as}
use Rattle.tsb_status.specs.WaitBy.{wait_by}
use Rattle.tsb_status.specs.WaitFound.{IsAround, IsRing, IsWaiting}
use Rattle.tsb_status.proofs.ToldLemmas.{waiting-are-found}
use Rattle.tsb_status.proofs.WaitFoundLemmas.{waits-are-found}
use Rattle.tsb_controller.specs.declared.waits.WaitsFound.{WaitsFound}
use Rattle.tsb_controller.specs.Rows.{Rows, Beside, state_of}
use Rattle.tsb_controller.specs.StatusPromises.{TellsAround, TellsService, TellsWait}

-- ## What holds of all phases

pub around : (tripped : Bool) (plan : Plan) (rows : Rows) (service : Option Service) (crosses : Bool) (side : ℕ) → TellsService plan rows service →
    crosses ≡ is_some (rings_in rows.rings).crossing → side ≡ (rings_in rows.rings).side →
    TellsAround tripped plan rows (record { tripped = tripped; service = service; crosses = crosses; side = side })
around tripped plan rows service crosses side told crossing sides now b p same trips = record {
  tripped = sym trips;
  service = told now b p same;
  crosses = crossing;
  side = sides;
}

-- ## A phase

module _ (found : WaitsFound) (clock : ℕ) (plan : Plan) (rows : Rows) (p : ℕ) (is_omitted : Bool) (times : PhaseTimes) (x : Waiting) (phase : is_phase p ≡ true)
    (omits : is_omitted ≡ is_omitted_now plan (running plan (pattern_in rows.pattern)) p) (told : TellsPhase clock rows.phases p times) (is : x ≡ waiting_as plan p is_omitted times) where
  module _ (now : ℕ) (b : Beside) (same : b.plan ≡ plan) (at : clock_at now b.trip ≡ clock) where
    waits-as : IsWaiting (state_of now b rows) x
    waits-as =
        subst (IsWaiting (state_of now b rows)) (sym (is ∙ ap (λ (y : Plan). waiting_as y p is_omitted times) (sym same)))
        (waiting-are-found (state_of now b rows) p is_omitted times phase (omits ∙ ap (λ (y : Plan). is_omitted_now y (running y (pattern_in rows.pattern)) p) (sym same))
        (subst (λ t. IsTold (phase_in t rows.phases p) times) (sym at) told))

    named : x.phase ≡ p
    named = ap (λ (y : Waiting). y.phase) is

    told-by : (own across : RingFound) → IsRing (state_of now b rows) (own_ring b.plan p) own → IsRing (state_of now b rows) (other (own_ring b.plan p)) across →
        IsAround (state_of now b rows) p found.around → wait (state_of now b rows) p ≡ Some (wait_by plan x own across found.around)
    told-by own across one two round =
        ap (wait (state_of now b rows)) (sym named)
        ∙ waits-are-found (state_of now b rows) x own across found.around waits-as
        (subst (λ q. IsRing (state_of now b rows) (own_ring b.plan q) own) (sym named) one)
        (subst (λ q. IsRing (state_of now b rows) (other (own_ring b.plan q)) across) (sym named) two)
        (subst (λ q. IsAround (state_of now b rows) q found.around) (sym named) round)
        ∙ ap (λ (y : Plan). Some (wait_by y x own across found.around)) same

  pub of-ring-1 : (w : Wait) → (ring_of plan p == 1) ≡ true → w ≡ wait_by plan x found.first found.second found.around → TellsWait found clock plan rows p w
  of-ring-1 w one is_wait now b same at all =
      let ring : own_ring b.plan p ≡ Ring1 = rw (same, one) refl in
      told-by now b same at found.first found.second (subst (λ r. IsRing (state_of now b rows) r found.first) (sym ring) all.first)
      (subst (λ r. IsRing (state_of now b rows) (other r) found.second) (sym ring) all.second) (all.around p)
      ∙ ap Some (sym is_wait)

  pub of-ring-2 : (w : Wait) → (ring_of plan p == 1) ≡ false → w ≡ wait_by plan x found.second found.first found.around → TellsWait found clock plan rows p w
  of-ring-2 w two is_wait now b same at all =
      let ring : own_ring b.plan p ≡ Ring2 = rw (same, two) refl in
      told-by now b same at found.second found.first (subst (λ r. IsRing (state_of now b rows) r found.second) (sym ring) all.second)
      (subst (λ r. IsRing (state_of now b rows) (other r) found.first) (sym ring) all.first) (all.around p)
      ∙ ap Some (sym is_wait)
