use Rattle.tsb_types.proofs.EventLemmas.{more}
use Rattle.tsb_events.proofs.tell.tell_counter.Goals as goal

pub returns-clause-told : goal.returns-clause-told
returns-clause-told c = more _ _ _ _ _ c.tell_cycle.ensures.told c.tell_zero.ensures.told
