use Rattle.tsb_types.proofs.EventLemmas.{told-by}
use Rattle.tsb_events.proofs.tell.tell_presence.Goals as goal

pub returns-clause-told : goal.returns-clause-told
returns-clause-told c = told-by _ _ _ _ _ _ c.tell.ensures.told c.exceeded.ensures
