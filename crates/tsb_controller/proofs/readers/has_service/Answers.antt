use Rattle.std.proofs.Common.{◌∙◌, ap, is_some}
use Rattle.tsb_step.specs.tsb_types.Flow.{interval_of}
use Rattle.tsb_step.specs.tsb_types.Intervals.{in_service}
use Rattle.tsb_step.specs.tsb_types.Lists.{run_from}
use Rattle.tsb_step.specs.tsb_types.Sets.{has}
use Rattle.tsb_step.proofs.tsb_types.FirstLemmas.{first-any, first-same}
use Rattle.tsb_ring.proofs.BoolLemmas.{served}
use Rattle.tsb_controller.proofs.readers.has_service.Goals as goal

pub returns : goal.returns
returns c =
    c.is_some.ensures
    ∙ ap is_some (c.first.ensures.found ∙ first-same (has c.union-served.result) (λ p. in_service (interval_of c.args.intervals.now p)) (run_from 1 16)
    (λ p. c.union-served.ensures p ∙ rw (c.union.ensures p) (served _ _ _)))
    ∙ first-any (λ p. in_service (interval_of c.args.intervals.now p)) (run_from 1 16)
