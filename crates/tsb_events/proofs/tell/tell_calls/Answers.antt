use Rattle.tsb_types.specs.Events.{begins}
use Rattle.tsb_types.proofs.EventLemmas.{more, told-by}
use Rattle.tsb_events.proofs.tell.tell_calls.Goals as goal

pub returns-clause-told : goal.returns-clause-told
returns-clause-told c =
    let comes = told-by _ _ _ _ _ _ c.tell_begun.ensures.told (λ i. begins (c.vehicle_calls-called_was.ensures i) (c.vehicle_calls-called.ensures i)) in
    let goes = told-by _ _ _ _ _ _ c.tell_begun-2.ensures.told (λ i. begins (c.vehicle_calls-called.ensures i) (c.vehicle_calls-called_was.ensures i)) in
    let pedestrians = told-by _ _ _ _ _ _ c.tell_begun-3.ensures.told (λ i. begins (c.pedestrian_calls-pedestrians_was.ensures i) (c.pedestrian_calls-pedestrians.ensures i)) in
    more _ _ _ _ _ (more _ _ _ _ _ comes goes) pedestrians
