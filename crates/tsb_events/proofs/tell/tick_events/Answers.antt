use Rattle.std.proofs.Common.{◌≡◌, ◌∙◌, List, ◌++◌, ap}
use Rattle.tsb_types.specs.declared.event.Event.{Event}
use Rattle.tsb_events.proofs.tell.tick_events.Goals as goal

-- some more events, after those that were there before
onto : (before told more all : List Event) → all ≡ before ++ more → before ≡ told → all ≡ told ++ more
onto before told more all added same = added ∙ ap (λ (es : List Event). es ++ more) same

pub returns : goal.returns
returns c =
    onto _ _ _ _ c.tell_flash.ensures.told (onto _ _ _ _ c.tell.ensures.told (onto _ _ _ _ c.tell_counter.ensures.told (onto _ _ _ _ c.tell_exits.ensures.told (onto _ _ _ _ c.tell_presence.ensures.told (onto _ _ _ _ c.tell_preempts.ensures.told (onto _ _ _ _ c.tell_requests.ensures.told (onto _ _ _ _ c.tell_buttons.ensures.told (onto _ _ _ _ c.tell_alarms.ensures.told (onto _ _ _ _ c.tell_vehicles.ensures.told (onto _ _ _ _ c.tell_overlaps.ensures.told (onto _ _ _ _ c.tell_calls.ensures.told (onto _ _ _ _ c.tell_arrows.ensures.told (onto _ _ _ _ c.tell_crossing.ensures.told (onto _ _ _ _ c.tell_pedestrians.ensures.told (onto _ _ _ _ c.tell_clearings.ensures.told (onto _ _ _ _ c.tell_endings.ensures.told (onto _ _ _ _ c.tell_greens.ensures.told c.clear.ensures)))))))))))))))))
