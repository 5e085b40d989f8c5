-- The events of an input, from what was kept of the cabinet before it and what is seen after it.
use Rattle.std.proofs.Common.{◌≡◌, ◌∙◌, ℕ, ◌+◌, ◌-◌, ◌<◌, ◌≤◌, Bool, true, false, ◌&&◌, if◌then◌else◌, [], Option, None, is_some, is_none, refl, sym, ap, ap₂, subst, arith}
use Rattle.std.proofs.lemmas.Bool.Decides.{nat_tests}
use Rattle.std.specs.Prelude.{Result, Ok, Err, OnOk}
use Rattle.tsb_types.specs.declared.phase_set.PhaseSet.{PhaseSet}
use Rattle.tsb_types.specs.declared.refusal.Refusal.{Refusal}
use Rattle.tsb_types.specs.declared.row.Row.{Row}
use Rattle.tsb_types.specs.Intervals.{is_green, is_yellow}
use Rattle.tsb_types.specs.Sets.{has}
use Rattle.tsb_plan.specs.Plan.{Plan}
use Rattle.tsb_plan.specs.PlanOf.{plan_in}
use Rattle.tsb_phase.specs.declared.cause.Cause.{Cause}
use Rattle.tsb_phase.specs.declared.cause.Cause.TheVariants.{ForceOff, Gap, Maximum}
use Rattle.tsb_phase.specs.Causes.{cause}
use Rattle.tsb_phase.specs.Pedestrian.{ended_by}
use Rattle.tsb_step.specs.EventLaws.{EndsNoTime}
use Rattle.tsb_step.specs.declared.log_form.Noted.{Noted}
use Rattle.tsb_step.specs.Events.{ends_freely, events_between, events_of, is_cause, other_events, selected, view}
use Rattle.tsb_step.specs.MonitorCells.{lamp_in, trip_in}
use Rattle.tsb_step.specs.State.{State, Tripped, interval}
use Rattle.tsb_step.specs.Step.{last_tick, step, verdict}
use Rattle.tsb_step.specs.Tick.{phases_given, phase_read}
use Rattle.tsb_step.specs.declared.inputs.Input.{Input}
use Rattle.tsb_step.specs.declared.inputs.Input.TheVariants as inputs
use Rattle.tsb_step.proofs.ClearLemmas.{plan_stays}
use Rattle.tsb_step.proofs.QuietEventLemmas.{not-both, quiet-tells-none}
use Rattle.tsb_controller.specs.declared.causes.Causes.{Causes}
use Rattle.tsb_controller.specs.Causes.{AreCausesOf, TellsCauses, ends_by_itself}
use Rattle.tsb_controller.specs.Rows.{Rows, state_of, untripped}
use Rattle.tsb_controller.specs.Whole.{All, AreAllBy, all_in}
use Rattle.tsb_controller.proofs.EndingLemmas.{causes-alike}
use Rattle.tsb_controller.proofs.WaitLemmas.{rows-wait}
use Rattle.tsb_bench.specs.Cabinet.{Passes, next_tick}
use Rattle.tsb_bench.specs.Telling.{AreEnds}

-- a tick that is not refused is one before the last
pub tick-below : (now : ℕ) (a : All) (row : Row) → verdict (all_in now a) (inputs.Tick row) ≡ None → now < last_tick
unfolding verdict
tick-below now a row allowed = grind (arith, nat_tests)

-- the plan of the rows stays in a tick
pub plan-stays : (tick now : ℕ) (a new : All) (row : Row) → all_in now new ≡ step (all_in tick a) (inputs.Tick row) → plan_in new.plan ≡ plan_in a.plan
plan-stays tick now a new row stepped = ap (λ (s : State). s.plan) stepped ∙ plan_stays (all_in tick a) row

-- ## What ended greens

-- a tick of a controller that has tripped ends no green
pub tripped-ends-none : (s : State) (row : Row) (p : ℕ) → is_some s.trip ≡ true → ends_freely s row (step s (inputs.Tick row)) p ≡ false
unfolding step
tripped-ends-none s row p trips =
    rw trips (not-both (interval s p) (is_none (ended_by (phases_given s row) p)))

-- the rows of a controller that has not tripped, as the layers give causes of them
pub causes-told : (tick now : ℕ) (a new : All) (row : Row) (plan : Plan) (rows : Rows) (yellow : PhaseSet) (result : Causes) → trip_in a.monitor ≡ None →
    plan ≡ plan_in a.plan → rows ≡ a.layers → all_in now new ≡ step (all_in tick a) (inputs.Tick row) →
    ((p : ℕ) → 1 ≤ p → p ≤ 16 → has yellow p ≡ is_yellow (interval (all_in now new) p)) →
    TellsCauses (tick + 1) row yellow plan rows result → AreEnds (all_in tick a) row result
causes-told tick now a new row plan rows yellow result none same_plan same_rows stepped told causes =
    subst (λ (s : State). AreCausesOf (ends_freely s row (step (all_in tick a) (inputs.Tick row))) (λ p. cause s.plan (phases_given s row) p (phase_read s p)) result) here
    (causes-alike (ends_by_itself t row yellow) (ends_freely t row (step (all_in tick a) (inputs.Tick row)))
    (λ p. cause plan (phases_given t row) p (phase_read t p)) (λ p. cause plan (phases_given t row) p (phase_read t p)) result
    (λ p from to. ap (λ (b : Bool). is_green (interval t p) && (b && is_none (ended_by (phases_given t row) p)))
    (told p from to ∙ ap (λ (x : State). is_yellow (interval x p)) stepped))
    (λ p from to on. refl) (causes (all_in tick a).desk (lamp_in a.monitor)))
  where
    t : State
    t = state_of (tick + 1 - 1) (untripped plan (all_in tick a).desk (lamp_in a.monitor)) rows

    number : tick + 1 - 1 ≡ tick
    number = omega arith

    here : t ≡ all_in tick a
    here =
        ap (λ (n : ℕ). state_of n (untripped plan (all_in tick a).desk (lamp_in a.monitor)) rows) number
        ∙ ap₂ (λ (x : Plan) (r : Rows). state_of tick (untripped x (all_in tick a).desk (lamp_in a.monitor)) r) same_plan same_rows
        ∙ ap (λ (o : Option Tripped). state_of tick (record { plan = plan_in a.plan; desk = (all_in tick a).desk; lamp = lamp_in a.monitor; trip = o }) a.layers) (sym none)

-- a cause that is found where a test holds
pub caused : (c : Cause) (b : Bool) (o : Option Cause) → (b && is_cause c o) ≡ is_cause c (if b then o else None)
caused Gap true o = refl
caused Maximum true o = refl
caused ForceOff true o = refl
caused Gap false o = refl
caused Maximum false o = refl
caused ForceOff false o = refl

-- ## Events

-- the events of an input that is no tick
pub other-told : (noted : Noted) (s after : State) (i : Input) → ((row : Row) → i ≡ inputs.Tick row → ⊥) →
    events_between noted s i after ≡ other_events after.now noted (view s) (view after) (selected s) (selected after)
other-told noted s after (inputs.Tick row) none = absurd (none row refl)
other-told noted s after i none = refl

-- a tick that is passed over, with the inputs of the tick before, has no event
pub passed-tells-none : (i : Input) (tick : ℕ) (a : All) (noted : Noted) → AreAllBy tick a → Passes i tick a → i ≡ inputs.Tick noted.row →
    EndsNoTime (all_in tick a) → events_of noted (all_in tick a) i ≡ []
passed-tells-none i tick a noted by passes is ends =
    ap (events_of noted (all_in tick a)) is
    ∙ quiet-tells-none noted (all_in tick a) (sym stepped ∙ rows-wait tick a by) ends
  where
    stepped : all_in (tick + 1) a ≡ step (all_in tick a) (inputs.Tick noted.row)
    stepped = subst (λ (j : Input). all_in (next_tick tick j) a ≡ step (all_in tick a) j) is passes.done.state

-- what holds in any case holds of an answer that took the input
pub always : {P : Type 0} (result : Result (Unit {0}) Refusal) → P → OnOk result P
always (Ok x) p = p
always (Err e) p = tt
