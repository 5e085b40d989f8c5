use Rattle.tsb_types.specs.Events.{begins}
use Rattle.tsb_types.proofs.EventLemmas.{more, told_detectors-by}
use Rattle.tsb_events.proofs.tell.tell_vehicles.Goals as goal

pub returns-clause-told : goal.returns-clause-told
returns-clause-told c =
    let off = told_detectors-by _ _ _ _ _ _ c.tell_detectors_begun.ensures.told (λ i. begins (c.vehicles-on.ensures i) (c.vehicles-on_was.ensures i)) in
    let on = told_detectors-by _ _ _ _ _ _ c.tell_detectors_begun-2.ensures.told (λ i. begins (c.vehicles-on_was.ensures i) (c.vehicles-on.ensures i)) in
    more _ _ _ _ _ off on
