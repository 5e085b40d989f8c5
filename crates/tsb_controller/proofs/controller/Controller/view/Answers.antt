use Rattle.std.proofs.Common.{◌∙◌, ◌&&◌, ◌||◌, ℕ, ◌≤◌, Bool, Option, true, sym, ap, ap₂, is_some}
use Rattle.std.proofs.Math.Bool.{or_assoc}
use Rattle.tsb_step.specs.tsb_types.declared.stage.Stage.{Stage}
use Rattle.tsb_step.specs.tsb_types.Intervals.{in_service, is_clearance, is_green, is_red_clear, is_walk, is_yellow}
use Rattle.tsb_step.specs.tsb_types.Sets.{has, has_number}
use Rattle.tsb_objects.specs.Checked.{checked_plan}
use Rattle.tsb_heads.specs.Colours.{is_flashing_yellow, is_yellow as is_yellow_head}
use Rattle.tsb_heads.specs.Monitoring.{is_green as is_green_head}
use Rattle.tsb_heads.specs.Promises.{IsSame}
use Rattle.tsb_heads.specs.Reading.{heads_of}
use Rattle.tsb_ring.proofs.BoolLemmas.{served}
use Rattle.tsb_step.specs.Cells.{clock_at}
use Rattle.tsb_step.specs.tsb_types.Flow.{interval_of}
use Rattle.tsb_step.specs.tsb_plan.Plan.{Plan}
use Rattle.tsb_step.specs.tsb_plan.Running.{is_on_maximum_recall, is_on_minimum_recall, is_on_pedestrian_recall, running}
use Rattle.tsb_coord.specs.Cycle.{cycle_state}
use Rattle.tsb_step.specs.Events.{is_track, serves, shown_interval, stage_is_green, view}
use Rattle.tsb_preempt.specs.Preempts.{is_dwell, is_exit}
use Rattle.tsb_step.specs.Signs.{display}
use Rattle.tsb_step.specs.State.{State}
use Rattle.tsb_controller.specs.Layer.{rows_of}
use Rattle.tsb_controller.specs.Rows.{state_of}
use Rattle.tsb_controller.proofs.PlacedLemmas.{placed}
use Rattle.tsb_controller.proofs.SeenLemmas.{clear-set, clearance-set, dark-arrow, dark-green, dark-yellow, off-told, overlaps-told, pedestrian-calls, served-told, shown-intervals, shown-parts, stage-green-same, trails-told, vehicle-calls, walk-set, yellow-set}
use Rattle.tsb_controller.proofs.TickLemmas.{green-set}
use Rattle.tsb_controller.proofs.WatchLemmas.{displayed}
use Rattle.tsb_controller.proofs.controller.Controller.view.Goals as goal

pub returns : goal.returns
unfolding view
returns c b same trips clock =
    let now : ℕ = c.args.tick in
    let rows = rows_of c.args.self.now in
    let plan = checked_plan c.args.plan.now in
    let few = (placed c.args.plan.now).count in
    let detectors = (placed c.args.plan.now).detectors in
    let s : State = state_of now b rows in
    let i = c.shown_intervals-shown.result in
    let w = c.shown_pedestrians-walking.result in
    let shown = shown-intervals c.args.tripped rows now b trips c.intervals-intervals.result i c.intervals-intervals.ensures c.shown_intervals-shown.ensures in
    let parts = shown-parts c.args.tripped rows now b trips c.pedestrians-pedestrians.result w c.pedestrians-pedestrians.ensures c.shown_pedestrians-walking.ensures in
    let d = c.heads-display.result in
    let heads : IsSame (heads_of d) (display s) = displayed plan c.args.tripped rows d few c.heads-display.ensures.shown now b same trips in
    let at_stage = c.stage-stage.ensures (clock_at now b.trip) in
    let greens = λ (o : ℕ) (from : 1 ≤ o). c.overlap_greens-overlap_greens.ensures o ∙ overlaps-told is_green_head dark-green d (display s) heads c.heads-display.ensures.few o from in
    let yellows = λ (o : ℕ) (from : 1 ≤ o). c.overlap_yellows-overlap_yellows.ensures o ∙ overlaps-told is_yellow_head dark-yellow d (display s) heads c.heads-display.ensures.few o from in
    let arrows = λ (o : ℕ) (from : 1 ≤ o). c.overlap_arrows-overlap_arrows.ensures o ∙ overlaps-told is_flashing_yellow dark-arrow d (display s) heads c.heads-display.ensures.few o from in
    let in_serving = λ (p : ℕ) (from : 1 ≤ p) (to : p ≤ 16).
    c.union-served.ensures p ∙ ap (λ (x : Bool). x || has i.red_clear p) (c.union.ensures p) ∙ served (has i.green p) (has i.yellow p) (has i.red_clear p) ∙ ap in_service (shown p from to) in
    record {
      greens = λ p from to. c.numbers.ensures p ∙ green-set i p ∙ ap is_green (shown p from to);
      yellows = λ p from to. c.numbers-2.ensures p ∙ c.difference.ensures p ∙ yellow-set i p ∙ ap is_yellow (shown p from to);
      red_clearances = λ p from to. c.numbers-3.ensures p ∙ c.difference-3.ensures p ∙ rw (c.difference-2.ensures p) (clear-set i p) ∙ ap is_red_clear (shown p from to);
      red_timings = λ p from to. c.numbers-4.ensures p ∙ c.red_timings.ensures now b same trips clock p from to;
      conflicts = λ p from to. c.numbers-5.ensures p ∙ c.intersection.ensures p
          ∙ ap₂ (λ (x y : Bool). x && y) (green-set i p ∙ ap is_green (shown p from to)) (c.conflicts.ensures (clock_at now b.trip) p from to);
      walks = λ p from to. c.numbers-6.ensures p ∙ walk-set w p ∙ ap is_walk (parts p from to);
      clearances = λ p from to. c.numbers-7.ensures p ∙ c.difference-4.ensures p ∙ clearance-set w p ∙ ap is_clearance (parts p from to);
      vehicle_calls = λ p from to. c.numbers-8.ensures p
          ∙ vehicle-calls plan few detectors rows c.intervals-intervals.result c.pedestrians-pedestrians.result c.standing-standing.result c.intervals-intervals.ensures c.pedestrians-pedestrians.ensures c.standing-standing.ensures now b same p from to;
      pedestrian_calls = λ p from to. c.numbers-9.ensures p
          ∙ pedestrian-calls plan few detectors rows c.intervals-intervals.result c.pedestrians-pedestrians.result c.standing-standing.result c.intervals-intervals.ensures c.pedestrians-pedestrians.ensures c.standing-standing.ensures now b same p from to;
      recalls = λ p from to. c.numbers-10.ensures p ∙ c.recalls.ensures p from to
          ∙ ap (λ (x : Plan). is_on_minimum_recall x (running x s.pattern) p || is_on_maximum_recall x (running x s.pattern) p) (sym same);
      pedestrian_recalls = λ p from to. c.numbers-11.ensures p ∙ c.on_pedestrian_recall.ensures p from to
          ∙ ap (λ (o : Option ℕ). is_on_pedestrian_recall plan o p) c.running.ensures.runs
          ∙ ap (λ (x : Plan). is_on_pedestrian_recall x (running x s.pattern) p) (sym same);
      overlap_greens = λ o from to. greens o from;
      overlap_trails = λ o from to. c.trails.ensures c.requires.overlaps_by.0 o c.requires.overlaps_by.1 from to ∙ trails-told c.args.tripped rows now b trips c.requires.overlaps_by.0 o from to;
      overlap_yellows = λ o from to. yellows o from;
      overlap_arrows = λ o from to. arrows o from;
      overlaps_off = λ o from to.
          off-told plan c.union-3.result c.overlaps_off.result c.union-served.result s (display s) c.overlaps_off.ensures.off c.overlaps_off.ensures.few
          (λ n low. c.union-3.ensures n ∙ ap (λ (x : Bool). x || has_number c.overlap_arrows-overlap_arrows.result n) (c.union-2.ensures n)
          ∙ or_assoc (has_number c.overlap_greens-overlap_greens.result n) (has_number c.overlap_yellows-overlap_yellows.result n) (has_number c.overlap_arrows-overlap_arrows.result n) ∙ ap₂ (λ (x y : Bool). x || y) (greens n low) (ap₂ (λ (x y : Bool). x || y) (yellows n low) (arrows n low)))
          (λ n. served-told c.args.plan.now n c.union-served.result s same in_serving) o from;
      outputs = λ n from to. c.outputs.ensures (clock_at now b.trip) n from to;
      alarms = λ n from to. c.alarms.ensures (clock_at now b.trip) n from to;
      switches = λ n from to. c.switches.ensures (clock_at now b.trip) n;
      preempts = λ n from to. c.stages_of-stages.ensures.any n ∙ ap (λ (o : Option (ℕ × Stage)). serves (λ k. true) o n) at_stage;
      tracks = λ n from to. c.stages_of-stages.ensures.track n ∙ ap (λ (o : Option (ℕ × Stage)). serves is_track o n) at_stage;
      dwells = λ n from to. c.stages_of-stages.ensures.dwell n ∙ ap (λ (o : Option (ℕ × Stage)). serves is_dwell o n) at_stage;
      exits = λ n from to. c.stages_of-stages.ensures.exit n ∙ ap (λ (o : Option (ℕ × Stage)). serves is_exit o n) at_stage;
      is_preempted = c.is_some.ensures ∙ ap is_some at_stage;
      stage_is_green = c.stage_is_green.ensures
          ∙ stage-green-same plan (interval_of i) (shown_interval s) c.stage-stage.result few shown
          ∙ ap₂ (λ (x : Plan) (o : Option (ℕ × Stage)). stage_is_green x (shown_interval s) o) (sym same) at_stage;
      cycle = c.cycle_state.ensures ∙ ap (λ (x : Plan). cycle_state x s.pattern s.correction now) (sym same);
      crosses = c.is_some-2.ensures ∙ ap is_some c.crossing.ensures;
      side = c.side.ensures;
      flashes = sym trips;
    }
