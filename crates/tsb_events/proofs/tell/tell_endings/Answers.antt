use Rattle.tsb_types.proofs.EventLemmas.{more}
use Rattle.tsb_events.proofs.tell.tell_endings.Goals as goal

pub returns-clause-told : goal.returns-clause-told
returns-clause-told c = more _ _ _ _ _ (more _ _ _ _ _ (more _ _ _ _ _ c.tell.ensures.told c.tell-2.ensures.told) c.tell-3.ensures.told) c.tell-4.ensures.told
