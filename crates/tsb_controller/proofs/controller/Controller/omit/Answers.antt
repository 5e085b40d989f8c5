use Rattle.std.proofs.Math.Path.{fun_ext}
use Rattle.tsb_overlap.specs.Layer.{cells_of}
use Rattle.tsb_step.specs.Cells.{clock_at}
use Rattle.tsb_controller.specs.Layer.{rows_of}
use Rattle.tsb_controller.specs.Rows.{state_of}
use Rattle.tsb_controller.proofs.OverlapLemmas.{kept-whole}
use Rattle.tsb_controller.proofs.controller.Controller.omit.Goals as goal

pub returns-clause-state : goal.returns-clause-state
returns-clause-state c now b = λ i. record (state_of now b (rows_of c.args.self.now)) {
  overlaps = kept-whole (clock_at now b.trip) (cells_of c.args.self.now.overlaps) (cells_of c.omit.new.self) (c.omit.ensures.state.overlaps (clock_at now b.trip)) i;
  omitted = fun_ext c.omit.ensures.state.omitted i;
}

pub returns-clause-by : goal.returns-clause-by
returns-clause-by c now by = record {
  detectors = by.detectors;
  calls = by.calls;
  phases = by.phases;
  rings = by.rings;
  pattern = by.pattern;
  preempts = by.preempts;
  overlaps = c.omit.ensures.by now by.overlaps;
}
