use Rattle.tsb_objects.specs.Checked.{checked_plan}
use Rattle.tsb_detect.specs.Layer.{cells_of}
use Rattle.tsb_detect.proofs.QuietLemmas.{rows-range, quiet-ticks}
use Rattle.tsb_detect.proofs.detectors.Detectors.due.Goals as goal

pub soonest-requires-clause-range : goal.soonest-requires-clause-range
soonest-requires-clause-range c = rows-range c.args.now (cells_of c.args.self.now) c.requires.by

pub returns-then-is_empty-clause-quiet : goal.returns-then-is_empty-clause-quiet
returns-then-is_empty-clause-quiet c =
    quiet-ticks c.args.now c.soonest.result c.args.row.now (checked_plan c.args.plan.now) (cells_of c.args.self.now) c.requires.by c.soonest.ensures.within
    (λ d. c.unsettled.ensures d (c.is_empty.ensures.none c.if-is_empty.true d)) c.soonest.ensures.quiet
