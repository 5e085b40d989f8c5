use Rattle.std.proofs.Common.{◌∙◌, ap, is_some}
use Rattle.tsb_preempt.specs.Cells.{preempts_in}
use Rattle.tsb_preempt.specs.Layer.{cells_of}
use Rattle.tsb_controller.proofs.ReaderLemmas.{staged}
use Rattle.tsb_controller.proofs.controller.Controller.some_overlaps_due.Goals as goal

pub returns-clause-still : goal.returns-clause-still
returns-clause-still c = record {
  seen = c.surroundings-seen.result;
  intervals = c.intervals.result;
  shown = c.intervals.ensures;
  preempted = c.is_some-is_preempted.result;
  served = λ n. c.is_some-is_preempted.ensures ∙ ap is_some (c.stage.ensures n) ∙ staged (preempts_in n (cells_of c.args.self.now.preempts)).service;
  seen_are = c.surroundings-seen.ensures;
  quiet = c.due.ensures.quiet;
}
