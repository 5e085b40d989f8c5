use Rattle.tsb_types.proofs.EventLemmas.{more, told-by}
use Rattle.tsb_field_display.proofs.events.tell_arrows.Goals as goal

pub returns-clause-told : goal.returns-clause-told
returns-clause-told c =
    more _ _ _ _ _ (told-by _ _ _ _ _ _ c.tell.ensures.told c.begun.ensures) (told-by _ _ _ _ _ _ c.tell-2.ensures.told c.begun-2.ensures)
