use Rattle.tsb_types.specs.Events.{begins}
use Rattle.tsb_types.proofs.EventLemmas.{told-by}
use Rattle.tsb_events.proofs.tell.tell_exits.Goals as goal

pub returns-clause-told : goal.returns-clause-told
returns-clause-told c =
    told-by _ _ _ _ _ _ c.tell_begun.ensures.told (λ i. begins (c.once_green-exits_was.ensures i) (c.once_green-exits.ensures i))
