use Rattle.tsb_types.proofs.EventLemmas.{more, told_detectors-by}
use Rattle.tsb_field_display.proofs.inputs.append_vehicles.Goals as goal

pub returns : goal.returns
returns c =
    more _ _ _ _ _ (told_detectors-by _ _ _ _ _ _ c.in_ok-tell_detectors.ensures (λ i n. c.difference.ensures n i))
    (told_detectors-by _ _ _ _ _ _ c.in_ok-tell_detectors-2.ensures (λ i n. c.difference-2.ensures n i))
