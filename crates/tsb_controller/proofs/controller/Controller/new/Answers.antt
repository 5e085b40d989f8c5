use Rattle.std.proofs.Common.{None}
use Rattle.tsb_detect.specs.Layer as detect
use Rattle.tsb_calls.specs.Layer as calls
use Rattle.tsb_phase.specs.Layer as phases
use Rattle.tsb_preempt.specs.Layer as preempts
use Rattle.tsb_overlap.specs.Layer as overlaps
use Rattle.tsb_transact.specs.Desk.{closed}
use Rattle.tsb_controller.proofs.InputLemmas.{detectors-start, memories-start, phases-start, preempts-start}
use Rattle.tsb_controller.proofs.OverlapLemmas.{omitted-start, overlaps-start}
use Rattle.tsb_controller.proofs.controller.Controller.new.Goals as goal

pub returns-clause-state : goal.returns-clause-state
returns-clause-state c plan = λ i. record {
  now = 0;
  plan = plan;
  desk = closed;
  pattern = c.new-5.ensures.each.0 i;
  correction = c.new-5.ensures.each.1 i;
  start_moment = c.new-5.ensures.start i;
  detectors = detectors-start 0 (detect.cells_of c.new.result) c.new.ensures.each i;
  memories = memories-start (calls.cells_of c.new-2.result) c.new-2.ensures.each i;
  phases = phases-start 0 (phases.cells_of c.new-3.result) (c.new-3.ensures.each 0) i;
  rings = c.new-4.ensures.state i;
  preempts = preempts-start 0 (preempts.cells_of c.new-6.result) c.new-6.ensures.fresh (c.new-6.ensures.by 0) i;
  overlaps = overlaps-start 0 (overlaps.cells_of c.new-7.result) c.new-7.ensures.fresh i;
  omitted = omitted-start (overlaps.cells_of c.new-7.result) c.new-7.ensures.fresh i;
  lamp = None;
  trip = None;
}

pub returns-clause-by : goal.returns-clause-by
returns-clause-by c = record {
  detectors = c.new.ensures.by;
  calls = c.new-2.ensures.by;
  phases = c.new-3.ensures.by 0;
  rings = c.new-4.ensures.by;
  pattern = c.new-5.ensures.by;
  preempts = c.new-6.ensures.by 0;
  overlaps = c.new-7.ensures.by 0;
}
