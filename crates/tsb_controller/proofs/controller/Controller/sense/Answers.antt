use Rattle.std.proofs.Common.{◌≡◌, ℕ, Option, Some, None, option_map, refl, ap, ◌∙◌}
use Rattle.tsb_step.specs.tsb_types.declared.stage.Stage.{Stage}
use Rattle.tsb_preempt.specs.Cells.{preempts_in}
use Rattle.tsb_preempt.specs.Layer.{cells_of}
use Rattle.tsb_preempt.specs.Promises.{stage_of}
use Rattle.tsb_preempt.specs.Service.{Service}
use Rattle.tsb_controller.proofs.controller.Controller.sense.Goals as goal

-- the preempt of a stage is that of the service
number_of : (o : Option Service) → option_map (λ (x : ℕ × Stage). x.0) (stage_of o) ≡ option_map (λ (x : Service). x.preempt) o
number_of None = refl
number_of (Some x) = refl

pub returns-clause-sensed : goal.returns-clause-sensed
returns-clause-sensed c = record {
  shown = c.intervals-intervals.ensures;
  walking = c.pedestrians.ensures;
  preempted = c.tick-asked.ensures.state;
  wanted = c.tick-asked.ensures.orders;
  preempts_by = c.tick-asked.ensures.by;
  served = λ n. c.preempt_of.ensures ∙ ap (option_map (λ (x : ℕ × Stage). x.0)) (c.stage.ensures n)
      ∙ number_of (preempts_in n (cells_of c.tick-asked.new.self)).service;
  ordered = c.orders.ensures.orders;
  greens = c.new-greens.result;
  greens_are = c.new-greens.ensures.phases;
  since_are = rw c.new-greens.ensures.since c.since.ensures.told;
  detected = c.tick.ensures.each;
  detectors_by = c.tick.ensures.by;
  outputs_are = c.outputs.ensures;
  actuated_are = c.actuations.ensures;
  rest = refl;
}
