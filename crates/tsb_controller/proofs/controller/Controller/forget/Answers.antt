use Rattle.tsb_controller.specs.Layer.{rows_of}
use Rattle.tsb_controller.specs.Rows.{state_of}
use Rattle.tsb_controller.proofs.controller.Controller.forget.Goals as goal

pub returns-clause-state : goal.returns-clause-state
returns-clause-state c now b = λ i. record (state_of now b (rows_of c.args.self.now)) { rings = c.forget.ensures.state i }

pub returns-clause-by : goal.returns-clause-by
returns-clause-by c now by = record {
  detectors = by.detectors;
  calls = by.calls;
  phases = by.phases;
  rings = c.forget.ensures.by;
  pattern = by.pattern;
  preempts = by.preempts;
  overlaps = by.overlaps;
}
