-- The inputs of stations: their refusals, and what a commit makes of the state.
use Rattle.std.proofs.Common.{◌≡◌, ℕ, List, Option, Some, None, sym, ap, ◌∙◌, refl, Bool, true, false}
use Rattle.std.specs.Prelude.{if◌then◌else◌, Result}
use Rattle.tsb_types.specs.declared.refusal.Refusal.{Refusal}
use Rattle.tsb_types.specs.declared.refusal.Refusal.TheVariants.{TooManyEdits}
use Rattle.tsb_plan.specs.declared.object.ObjectId.{ObjectId}
use Rattle.tsb_plan.specs.Plan.{Plan}
use Rattle.tsb_plan.specs.PlanOf.{plan_in}
use Rattle.tsb_step.specs.tsb_ring.Rings.{forgotten}
use Rattle.tsb_transact.specs.Calls as calls
use Rattle.tsb_transact.specs.Calls.{committed_plan, after_commit}
use Rattle.tsb_transact.specs.Cells.{desk_in}
use Rattle.tsb_transact.specs.Commit.{forgets_last_phases}
use Rattle.tsb_transact.specs.Desk.{Desk}
use Rattle.tsb_transact.specs.Promises.{Makes}
use Rattle.tsb_step.specs.MonitorCells.{lamp_in, trip_in}
use Rattle.tsb_step.specs.State.{State}
use Rattle.tsb_step.specs.Step.{step, set_refusal, rings_after}
use Rattle.tsb_step.specs.declared.inputs.Input.TheVariants as inputs
use Rattle.tsb_step.proofs.PlaceLemmas.{same_refusal}
use Rattle.tsb_controller.specs.Rows.{Beside, state_of}
use Rattle.tsb_controller.specs.Whole.{All, all_in}
use Rattle.tsb_bench.specs.Cabinet.{forgotten_if}
use Rattle.tsb_bench.proofs.InputLemmas.{beside}

-- a value is refused by the desk where it is by the plan
pub set-refusals : (now : ℕ) (a : All) (station : ℕ) (id : ObjectId) (v : ℕ) → calls.set_refusal station id v (desk_in a.desk) ≡ set_refusal (all_in now a) station id v
set-refusals now a station id v =
    ap (λ (o : Option Refusal). calls.or_refusal (calls.stranger_refusal station (desk_in a.desk).owner) (calls.or_refusal o (calls.refused_if (calls.has_no_room id (desk_in a.desk).edits) TooManyEdits)))
    (sym (same_refusal (plan_in a.plan) id v (record { phases = refl; sides = refl; counts = refl })))

-- what a call of the desk makes that is not refused
pub makes-none : (o : Option Refusal) (next : Desk) (old new : List ℕ) (result : Result (Unit {0}) Refusal) → o ≡ None → Makes o next old new result → desk_in new ≡ next
makes-none None next old new result none made = made.1
makes-none (Some e) next old new result none made = absurd cc

pub commit-state : (now : ℕ) (old new : All) (station : ℕ) (forgets : Bool) → forgets ≡ forgets_last_phases (plan_in old.plan) (desk_in old.desk).edits →
    plan_in new.plan ≡ committed_plan (plan_in old.plan) (desk_in old.desk) → desk_in new.desk ≡ after_commit → new.monitor ≡ old.monitor →
    ((b : Beside) → state_of now b new.layers ≡ forgotten_if forgets (state_of now b old.layers)) → all_in now new ≡ step (all_in now old) (inputs.Commit station)
unfolding step
commit-state now old new station forgets told plan desk monitor layers =
    layers (beside new)
    ∙ ap (λ (p : Plan). forgotten_if forgets (state_of now (record { plan = p; desk = desk_in new.desk; lamp = lamp_in new.monitor; trip = trip_in new.monitor }) old.layers)) plan
    ∙ ap (λ (d : Desk). forgotten_if forgets (state_of now (record { plan = plan_after; desk = d; lamp = lamp_in new.monitor; trip = trip_in new.monitor }) old.layers)) desk
    ∙ ap (λ (m : List ℕ). forgotten_if forgets (state_of now (record { plan = plan_after; desk = after_commit; lamp = lamp_in m; trip = trip_in m }) old.layers)) monitor
    ∙ at forgets told
  where
    plan_after : Plan
    plan_after = committed_plan (plan_in old.plan) (desk_in old.desk)

    s : State
    s = all_in now old

    at : (f : Bool) → f ≡ forgets_last_phases (plan_in old.plan) (desk_in old.desk).edits →
        forgotten_if f (record s { plan = plan_after; desk = after_commit }) ≡ record s { plan = plan_after; desk = after_commit; rings = rings_after s }
    at true is = ap (λ (x : Bool). record s { plan = plan_after; desk = after_commit; rings = if x then forgotten s.rings else s.rings }) is
    at false is = ap (λ (x : Bool). record s { plan = plan_after; desk = after_commit; rings = if x then forgotten s.rings else s.rings }) is
