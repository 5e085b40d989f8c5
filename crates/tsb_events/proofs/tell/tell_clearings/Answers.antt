use Rattle.tsb_types.specs.Events.{begins}
use Rattle.tsb_types.specs.Sets.{has_number}
use Rattle.tsb_types.proofs.EventLemmas.{more, told-by}
use Rattle.tsb_events.proofs.tell.tell_clearings.Goals as goal

pub returns-clause-told : goal.returns-clause-told
returns-clause-told c =
    let timed = told-by _ _ _ _ _ _ c.tell_begun-5.ensures.told (λ i. begins (has_number c.args.now.now.red_timings) (c.timed.ensures i)) in
    let over = told-by _ _ _ _ _ _ c.tell_begun-6.ensures.told (λ i. begins (c.serving.ensures i) (c.serving-2.ensures i)) in
    more _ _ _ _ _ (more _ _ _ _ _ (more _ _ _ _ _ (more _ _ _ _ _ (more _ _ _ _ _ c.tell_begun.ensures.told c.tell_begun-2.ensures.told) c.tell_begun-3.ensures.told) c.tell_begun-4.ensures.told) timed) over
