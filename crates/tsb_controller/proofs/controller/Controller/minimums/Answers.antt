use Rattle.std.proofs.Common.{◌≡◌, ◌∙◌, ◌&&◌, ◌-◌, ℕ, Bool, ap, slice_index, sym}
use Rattle.tsb_cells.specs.declared.timer.Timer.{Timer}
use Rattle.tsb_cells.specs.Timer.{is_below, timer_at}
use Rattle.tsb_step.specs.tsb_types.Intervals.{is_green}
use Rattle.tsb_step.specs.tsb_types.Sets.{has}
use Rattle.tsb_step.specs.tsb_plan.Plan.{Plan, minimum_green}
use Rattle.tsb_step.specs.tsb_plan.PlanOf.{plan_of}
use Rattle.tsb_step.specs.Cells.{clock_at}
use Rattle.tsb_step.specs.Events.{shown_interval}
use Rattle.tsb_step.specs.State.{State}
use Rattle.tsb_controller.specs.Layer.{rows_of}
use Rattle.tsb_controller.specs.Rows.{state_of}
use Rattle.tsb_controller.proofs.SeenLemmas.{shown-intervals}
use Rattle.tsb_controller.proofs.TickLemmas.{green-set}
use Rattle.tsb_controller.proofs.controller.Controller.minimums.Goals as goal

pub returns : goal.returns
returns c now b same trips clock p from to =
    let s : State = state_of now b (rows_of c.args.self.now) in
    let i = c.shown_intervals-shown.result in
    let shown = shown-intervals c.args.tripped (rows_of c.args.self.now) now b trips c.intervals-intervals.result i c.intervals-intervals.ensures c.shown_intervals-shown.ensures in
    let is_on : has i.green p ≡ is_green (shown_interval s p) = green-set i p ∙ ap is_green (shown p from to) in
    let timer : timer_at c.args.clock (slice_index c.since.result.now (p - 1)) ≡ (s.phases p).timer =
    ap (λ (n : ℕ). timer_at n (slice_index c.since.result.now (p - 1))) (sym clock) ∙ c.since.ensures.told (clock_at now b.trip) p from to in
    let plan : plan_of c.plan.result.now ≡ s.plan = c.plan.ensures.plan ∙ sym same in
    c.within_minimum.ensures p from to
    ∙ ap (λ (x : Bool). x && is_below (timer_at c.args.clock (slice_index c.since.result.now (p - 1))) (minimum_green (plan_of c.plan.result.now) p)) is_on
    ∙ ap (λ (t : Timer). is_green (shown_interval s p) && is_below t (minimum_green (plan_of c.plan.result.now) p)) timer
    ∙ ap (λ (x : Plan). is_green (shown_interval s p) && is_below (s.phases p).timer (minimum_green x p)) plan
