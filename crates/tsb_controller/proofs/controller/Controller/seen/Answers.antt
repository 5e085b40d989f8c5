use Rattle.std.proofs.Common.{ℕ, option_map, ap, ◌∙◌}
use Rattle.tsb_step.specs.tsb_types.declared.stage.Stage.{Stage}
use Rattle.tsb_objects.specs.Checked.{checked_plan}
use Rattle.tsb_step.specs.tsb_plan.Plan.{Plan}
use Rattle.tsb_preempt.specs.Cells.{preempts_in}
use Rattle.tsb_preempt.specs.Layer.{cells_of}
use Rattle.tsb_controller.specs.Passing.{wanted_in}
use Rattle.tsb_controller.proofs.LaterLemmas.{wanted-of, number-of}
use Rattle.tsb_controller.proofs.controller.Controller.seen.Goals as goal

pub returns : goal.returns
returns c =
    let cells = cells_of c.args.self.now.preempts in
    record {
      shown = c.intervals.ensures;
      walking = c.pedestrians.ensures;
      outputs_are = c.outputs-outputs.ensures;
      actuated_are = c.actuations-actuated.ensures;
      standing = record {
        target = c.standing.ensures.target
            ∙ ap (λ (x : Plan). wanted_in x c.stage.result) c.plan.ensures.plan
            ∙ ap (wanted_in (checked_plan c.args.plan.now)) (c.stage.ensures c.args.now)
            ∙ wanted-of (checked_plan c.args.plan.now) (preempts_in c.args.now cells).service;
        must_end = c.standing.ensures.must_end;
        ended = c.standing.ensures.ended;
      };
      served = λ n. c.preempt_of.ensures ∙ ap (option_map (λ (x : ℕ × Stage). x.0)) (c.stage-2.ensures n) ∙ number-of (preempts_in n cells).service;
      ordered = c.orders.ensures.orders;
    }
