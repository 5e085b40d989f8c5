use Rattle.std.proofs.Common.{None}
use Rattle.tsb_detect.specs.Layer as detect
use Rattle.tsb_calls.specs.Layer as calls
use Rattle.tsb_phase.specs.Layer as phases
use Rattle.tsb_preempt.specs.Layer as preempts
use Rattle.tsb_overlap.specs.Layer as overlaps
use Rattle.tsb_step.specs.Cells.{clock_at}
use Rattle.tsb_controller.proofs.InputLemmas.{detectors-start, memories-start, phases-start, preempts-reset}
use Rattle.tsb_controller.proofs.OverlapLemmas.{omitted-start, overlaps-start}
use Rattle.tsb_controller.proofs.controller.Controller.reset.Goals as goal

pub returns-clause-state : goal.returns-clause-state
returns-clause-state c b = λ i. record {
  now = c.args.now;
  plan = b.plan;
  desk = b.desk;
  pattern = c.reset-5.ensures.each.0 i;
  correction = c.reset-5.ensures.each.1 i;
  start_moment = c.reset-5.ensures.start i;
  detectors = detectors-start c.args.now (detect.cells_of c.reset.new.self) c.reset.ensures.each i;
  memories = memories-start (calls.cells_of c.reset-2.new.self) c.reset-2.ensures.each i;
  phases = phases-start c.args.now (phases.cells_of c.reset-3.new.self) (c.reset-3.ensures.each c.args.now) i;
  rings = c.reset-4.ensures.state i;
  preempts = preempts-reset c.args.now (clock_at c.args.now b.trip) (preempts.cells_of c.args.self.now.preempts) (preempts.cells_of c.reset-6.new.self)
      (c.reset-6.ensures.switches c.args.now) c.requires.by.preempts (c.reset-6.ensures.by c.args.now c.args.now c.requires.by.preempts) i;
  overlaps = overlaps-start c.args.now (overlaps.cells_of c.reset-7.new.self) c.reset-7.ensures.fresh i;
  omitted = omitted-start (overlaps.cells_of c.reset-7.new.self) c.reset-7.ensures.fresh i;
  lamp = None;
  trip = None;
}

pub returns-clause-by : goal.returns-clause-by
returns-clause-by c = record {
  detectors = c.reset.ensures.by;
  calls = c.reset-2.ensures.by;
  phases = c.reset-3.ensures.by c.args.now;
  rings = c.reset-4.ensures.by;
  pattern = c.reset-5.ensures.by;
  preempts = c.reset-6.ensures.by c.args.now c.args.now c.requires.by.preempts;
  overlaps = c.reset-7.ensures.by c.args.now;
}
