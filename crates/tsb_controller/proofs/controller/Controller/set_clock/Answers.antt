use Rattle.tsb_objects.specs.Checked.{checked_plan}
use Rattle.tsb_coord.specs.Layer as coord
use Rattle.tsb_controller.specs.Layer.{rows_of}
use Rattle.tsb_controller.specs.Rows.{state_of}
use Rattle.tsb_controller.proofs.InputLemmas.{clocked}
use Rattle.tsb_controller.proofs.controller.Controller.set_clock.Goals as goal

pub returns-clause-state : goal.returns-clause-state
returns-clause-state c b same = λ i. record (state_of c.args.now b (rows_of c.args.self.now)) {
  pattern = c.set_clock.ensures.set.pattern i;
  correction = clocked c.args.moment c.args.now (checked_plan c.args.plan.now) b.plan (coord.cells_of c.args.self.now.coord)
      (coord.cells_of c.set_clock.new.self) c.set_clock.ensures.set same i;
  start_moment = c.set_clock.ensures.set.start i;
}

pub returns-clause-by : goal.returns-clause-by
returns-clause-by c now by = record {
  detectors = by.detectors;
  calls = by.calls;
  phases = by.phases;
  rings = by.rings;
  pattern = c.set_clock.ensures.by;
  preempts = by.preempts;
  overlaps = by.overlaps;
}
