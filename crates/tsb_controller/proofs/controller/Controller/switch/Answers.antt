use Rattle.std.proofs.Common.{ap, subst, ◌∙◌}
use Rattle.tsb_objects.specs.Checked.{checked_plan}
use Rattle.tsb_step.specs.tsb_types.Flow.{answered}
use Rattle.tsb_preempt.specs.Layer.{cells_of}
use Rattle.tsb_preempt.specs.Promises.{IsSet}
use Rattle.tsb_step.specs.Cells.{clock_at}
use Rattle.tsb_controller.specs.Layer.{rows_of}
use Rattle.tsb_controller.specs.Rows.{state_of}
use Rattle.tsb_controller.proofs.InputLemmas.{preempts-switched}
use Rattle.tsb_controller.proofs.controller.Controller.switch.Goals as goal

pub returns-clause-state : goal.returns-clause-state
returns-clause-state c now b by = λ i. record (state_of now b (rows_of c.args.self.now)) {
  preempts = preempts-switched (clock_at now b.trip) (checked_plan c.args.plan.now) c.args.n c.args.on (cells_of c.args.self.now.preempts) (cells_of c.switch-done.new.self) c.requires.allowed
      (subst (IsSet c.args.n c.args.on (cells_of c.args.self.now.preempts) (cells_of c.switch-done.new.self)) (c.switch-done.ensures.refused ∙ ap answered c.requires.allowed) c.switch-done.ensures.set (clock_at now b.trip))
      by.preempts (c.switch-done.ensures.by (clock_at now b.trip) by.preempts) i;
}

pub returns-clause-by : goal.returns-clause-by
returns-clause-by c now by = record {
  detectors = by.detectors;
  calls = by.calls;
  phases = by.phases;
  rings = by.rings;
  pattern = by.pattern;
  preempts = c.switch-done.ensures.by now by.preempts;
  overlaps = by.overlaps;
}
