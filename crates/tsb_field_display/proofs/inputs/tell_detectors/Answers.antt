use Rattle.std.proofs.Common.{◌∙◌}
use Rattle.tsb_types.specs.Sets.{has_detector}
use Rattle.tsb_types.proofs.NumberLemmas.{detectors-least}
use Rattle.tsb_types.proofs.EventLemmas.{tell_detectors-next, tell_detectors-end}
use Rattle.tsb_field_display.proofs.inputs.tell_detectors.Goals as goal

pub loop-number-preserved : goal.loop-number-preserved
loop-number-preserved c =
    let found = c.in-Some.ensures in
    let least = detectors-least (has_detector c.loop-number.rest) (has_detector c.with-rest.result) c.in-Some.number found.from_one found.within
    found.had c.with-rest.ensures.set found.least c.with-rest.ensures.others in
    tell_detectors-next _ _ _ _ _ _ _ least c.in_ok-push.ensures.items ∙ c.loop-number.invariant

pub returns : goal.returns
returns c = tell_detectors-end _ _ _ _ _ (c.first.ensures.none c.in_default.is) c.loop-number.invariant
