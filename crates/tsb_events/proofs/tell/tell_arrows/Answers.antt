use Rattle.tsb_types.proofs.EventLemmas.{more}
use Rattle.tsb_events.proofs.tell.tell_arrows.Goals as goal

pub returns-clause-told : goal.returns-clause-told
returns-clause-told c = more _ _ _ _ _ c.tell_begun.ensures.told c.tell_begun-2.ensures.told
