use Rattle.tsb_types.proofs.EventLemmas.{more, told-by}
use Rattle.tsb_field_display.proofs.events.tell_vehicles.Goals as goal

pub returns-clause-told : goal.returns-clause-told
returns-clause-told c =
    let green = told-by _ _ _ _ _ _ c.tell.ensures.told c.begun.ensures in
    let green_ends = told-by _ _ _ _ _ _ c.tell-2.ensures.told c.begun-2.ensures in
    let yellow = told-by _ _ _ _ _ _ c.tell-3.ensures.told c.begun-3.ensures in
    let yellow_ends = told-by _ _ _ _ _ _ c.tell-4.ensures.told c.begun-4.ensures in
    more _ _ _ _ _ (more _ _ _ _ _ (more _ _ _ _ _ green green_ends) yellow) yellow_ends
