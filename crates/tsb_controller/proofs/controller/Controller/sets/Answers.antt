use Rattle.std.proofs.Common.{◌∙◌, ◌&&◌, ◌||◌, not, Bool, sym, ap, ap₂}
use Rattle.tsb_step.specs.tsb_types.Intervals.{is_green}
use Rattle.tsb_step.specs.tsb_plan.Plan.{Plan, is_enabled}
use Rattle.tsb_step.specs.tsb_rules.Rules.{serves_pedestrians}
use Rattle.tsb_objects.specs.Checked.{checked_plan}
use Rattle.tsb_heads.specs.Promises.{IsSame}
use Rattle.tsb_heads.specs.Reading.{heads_of}
use Rattle.tsb_step.specs.Cells.{clock_at}
use Rattle.tsb_step.specs.Events.{shown_interval, shown_part, view}
use Rattle.tsb_step.specs.Signs.{display}
use Rattle.tsb_step.specs.State.{State}
use Rattle.tsb_step.specs.Status.{is_red_head}
use Rattle.tsb_controller.specs.Layer.{rows_of}
use Rattle.tsb_controller.specs.Rows.{state_of}
use Rattle.tsb_controller.proofs.PlacedLemmas.{placed}
use Rattle.tsb_controller.proofs.SeenLemmas.{overlaps-told}
use Rattle.tsb_controller.proofs.StatusSetLemmas.{dark-red, held-set, on-set, red-head, waiting-set}
use Rattle.tsb_controller.proofs.TickLemmas.{green-set}
use Rattle.tsb_controller.proofs.WatchLemmas.{displayed}
use Rattle.tsb_controller.proofs.controller.Controller.sets.Goals as goal

pub returns : goal.returns
unfolding view
returns c now b same a =
    let rows = rows_of c.args.self.now in
    let plan = checked_plan c.args.plan.now in
    let s : State = state_of now b rows in
    let d = c.heads-display.result in
    let heads : IsSame (heads_of d) (display s) = displayed plan c.args.seen.now.flashes rows d (placed c.args.plan.now).count c.heads-display.ensures.shown now b same (sym a.flashes) in
    record {
      reds = λ p from to.
          c.difference.ensures p
          ∙ ap₂ (λ (x y : Bool). x && not y) (c.numbers.ensures p ∙ c.enabled.ensures p ∙ ap (λ (y : Plan). is_enabled y p) (sym same))
          (c.union-lit.ensures p ∙ ap₂ (λ (x y : Bool). x || y) (a.greens p from to) (a.yellows p from to));
      dont_walks = λ p from to.
          c.difference-2.ensures p
          ∙ ap₂ (λ (x y : Bool). x && not y)
          (c.numbers-2.ensures p ∙ c.intersection.ensures p ∙ ap₂ (λ (x y : Bool). x && y) (c.enabled-2.ensures p) (c.with_walk.ensures p) ∙ ap (λ (y : Plan). serves_pedestrians y p) (sym same))
          (c.union-walking.ensures p ∙ ap₂ (λ (x y : Bool). x || y) (a.walks p from to) (a.clearances p from to))
          ∙ ap (λ (x : Bool). serves_pedestrians s.plan p && x) (held-set (shown_part s p));
      phase_ons = λ p from to.
          c.union.ensures p
          ∙ ap₂ (λ (x y : Bool). x || y) (c.union-lit.ensures p ∙ ap₂ (λ (x y : Bool). x || y) (a.greens p from to) (a.yellows p from to)) (a.red_clearances p from to)
          ∙ on-set (shown_interval s p);
      overlap_reds = λ o from to.
          c.union-2.ensures o ∙ ap₂ (λ (x y : Bool). x || y) (c.overlap_reds.ensures o) (c.overlaps_flashing.ensures o)
          ∙ red-head ((heads_of d).overlap o) ∙ overlaps-told is_red_head dark-red d (display s) heads c.heads-display.ensures.few o from;
      waiting = λ p from to.
          waiting-set _ _ _ _ _ (c.difference-3.ensures p)
          (c.union-called.ensures p ∙ ap₂ (λ (x y : Bool). x || y) (a.vehicle_calls p from to) (a.pedestrian_calls p from to))
          (c.numbers-3.ensures p ∙ green-set c.intervals.result p ∙ ap is_green (c.intervals.ensures (clock_at now b.trip) p from to));
    }
