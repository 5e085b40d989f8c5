use Rattle.tsb_objects.specs.Checked.{checked_plan}
use Rattle.tsb_coord.specs.Layer as coord
use Rattle.tsb_phase.specs.Layer as phases
use Rattle.tsb_step.specs.Cells.{clock_at}
use Rattle.tsb_controller.specs.Layer.{rows_of}
use Rattle.tsb_controller.specs.Rows.{state_of}
use Rattle.tsb_controller.proofs.InputLemmas.{corrected, selected, unforced-all}
use Rattle.tsb_controller.proofs.controller.Controller.set_pattern.Goals as goal

pub returns-clause-state : goal.returns-clause-state
returns-clause-state c b same = λ i. record (state_of c.args.now b (rows_of c.args.self.now)) {
  pattern = selected c.args.n c.args.now (checked_plan c.args.plan.now) (coord.cells_of c.args.self.now.coord) (coord.cells_of c.set_pattern-done.new.self)
      c.requires.allowed c.set_pattern-done.ensures.selected i;
  correction = corrected c.args.n c.args.now (checked_plan c.args.plan.now) b.plan (coord.cells_of c.args.self.now.coord)
      (coord.cells_of c.set_pattern-done.new.self) c.requires.allowed c.set_pattern-done.ensures.selected same i;
  start_moment = c.set_pattern-done.ensures.selected.start i;
  phases = unforced-all (clock_at c.args.now b.trip) (phases.cells_of c.args.self.now.phases) (phases.cells_of c.unforce.new.self) c.unforce.ensures.each i;
}

pub returns-clause-by : goal.returns-clause-by
returns-clause-by c now by = record {
  detectors = by.detectors;
  calls = by.calls;
  phases = c.unforce.ensures.by now by.phases;
  rings = by.rings;
  pattern = c.set_pattern-done.ensures.by;
  preempts = by.preempts;
  overlaps = by.overlaps;
}
