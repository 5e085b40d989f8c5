use Rattle.tsb_types.specs.Events.{begins}
use Rattle.tsb_types.proofs.EventLemmas.{more, told-by}
use Rattle.tsb_events.proofs.tell.tell_preempts.Goals as goal

pub returns-clause-told : goal.returns-clause-told
returns-clause-told c =
    let tracks = told-by _ _ _ _ _ _ c.tell_begun-2.ensures.told (λ i. begins (c.once_green-tracks_was.ensures i) (c.once_green-tracks.ensures i)) in
    let dwells = told-by _ _ _ _ _ _ c.tell_begun-3.ensures.told (λ i. begins (c.once_green-dwells_was.ensures i) (c.once_green-dwells.ensures i)) in
    more _ _ _ _ _ (more _ _ _ _ _ c.tell_begun.ensures.told tracks) dwells
