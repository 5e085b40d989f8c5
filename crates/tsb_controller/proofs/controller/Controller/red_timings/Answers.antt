use Rattle.std.proofs.Common.{◌≡◌, ◌∙◌, ◌&&◌, ◌-◌, ℕ, Bool, ap, slice_index, sym}
use Rattle.tsb_cells.specs.declared.timer.Timer.{Timer}
use Rattle.tsb_cells.specs.Timer.{is_below, timer_at}
use Rattle.tsb_step.specs.tsb_types.Intervals.{is_red_clear}
use Rattle.tsb_step.specs.tsb_types.Sets.{has}
use Rattle.tsb_step.specs.tsb_plan.Plan.{Plan, red_clear}
use Rattle.tsb_step.specs.tsb_plan.PlanOf.{plan_of}
use Rattle.tsb_step.specs.Cells.{clock_at}
use Rattle.tsb_step.specs.Events.{shown_interval}
use Rattle.tsb_step.specs.State.{State}
use Rattle.tsb_controller.specs.Layer.{rows_of}
use Rattle.tsb_controller.specs.Rows.{state_of}
use Rattle.tsb_controller.proofs.SeenLemmas.{clear-set, shown-intervals}
use Rattle.tsb_controller.proofs.controller.Controller.red_timings.Goals as goal

pub returns : goal.returns
returns c now b same trips clock p from to =
    let s : State = state_of now b (rows_of c.args.self.now) in
    let i = c.shown_intervals-shown.result in
    let shown = shown-intervals c.args.tripped (rows_of c.args.self.now) now b trips c.intervals-intervals.result i c.intervals-intervals.ensures c.shown_intervals-shown.ensures in
    let cleared : has c.difference-clearing.result p ≡ is_red_clear (shown_interval s p) =
    c.difference-clearing.ensures p ∙ rw (c.difference.ensures p) (clear-set i p) ∙ ap is_red_clear (shown p from to) in
    let timer : timer_at c.args.clock (slice_index c.since.result.now (p - 1)) ≡ (s.phases p).timer =
    ap (λ (n : ℕ). timer_at n (slice_index c.since.result.now (p - 1))) (sym clock) ∙ c.since.ensures.told (clock_at now b.trip) p from to in
    let plan : plan_of c.plan.result.now ≡ s.plan = c.plan.ensures.plan ∙ sym same in
    c.within_red_clearance.ensures p from to
    ∙ ap (λ (x : Bool). x && is_below (timer_at c.args.clock (slice_index c.since.result.now (p - 1))) (red_clear (plan_of c.plan.result.now) p)) cleared
    ∙ ap (λ (t : Timer). is_red_clear (shown_interval s p) && is_below t (red_clear (plan_of c.plan.result.now) p)) timer
    ∙ ap (λ (x : Plan). is_red_clear (shown_interval s p) && is_below (s.phases p).timer (red_clear x p)) plan
