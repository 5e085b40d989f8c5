-- Events in order, and mistakes that put them in another.
use Rattle.std.proofs.Common.{◌≡◌, ◌≢◌, ◌<◌, true, List, [], ◌∷◌, ◌++◌, Some, refl, arith, inl, inr}
use Rattle.std.proofs.lemmas.List.Elements.{All-head}
use Rattle.tsb_types.specs.Events.{event}
use Rattle.tsb_types.specs.declared.event.Event.{Event}
use Rattle.tsb_step.specs.Events as events
use Rattle.tsb_events.specs.Order.{StandsBefore, AreInOrder}
use Rattle.tsb_events.proofs.Examples.Examples as examples
use Rattle.tsb_events.proofs.Examples.Examples.{dark, free, only, quiet}

-- what a computed line opens
unfoldable pub opened : Unit {0}
unfolding examples.opened
opened = examples.opened

-- an event whose code is the lower does not come after
behind : (e f : Event) (es : List Event) → f.code ≢ e.code → (e.code < f.code → ⊥) → AreInOrder (e ∷ f ∷ es) → ⊥
behind e f es other lower order =
    let first : StandsBefore e f = All-head (StandsBefore e) f es order.0 in
    elim first.1 [
      | inl less ↦ lower less
      | inr same ↦ other (omega (arith, same.0))
    ]

-- ## The causes of ends after the ends

-- a tick that ends the green of phase 2 by its gap
abbrev ends_first : List Event
ends_first =
    events.clearing_events 9 (record dark { greens = only 2 }) (record dark { yellows = only 2 })
    ++ events.ending_events 9 (record quiet { gap = only 2 })

end_first : ends_first ≡ event 9 7 2 ∷ event 9 8 2 ∷ event 9 4 2 ∷ []
unfolding opened
end_first = refl

is_not_in_order : AreInOrder (event 9 7 2 ∷ event 9 8 2 ∷ event 9 4 2 ∷ []) → ⊥
is_not_in_order order = behind (event 9 8 2) (event 9 4 2) [] (omega arith) (λ less. omega (arith, less)) order.1

-- ## Flash before the pattern

abbrev flashes_first : List Event
flashes_first = events.flash_events 9 dark (record dark { flashes = true }) ++ events.pattern_events 9 free (record free { pattern = Some 2 })

flash_first : flashes_first ≡ event 9 173 6 ∷ event 9 131 2 ∷ []
unfolding opened
flash_first = refl

flash_is_not_in_order : AreInOrder (event 9 173 6 ∷ event 9 131 2 ∷ []) → ⊥
flash_is_not_in_order order = behind (event 9 173 6) (event 9 131 2) [] (omega arith) (λ less. omega (arith, less)) order
