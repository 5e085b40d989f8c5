-- A street that has taken some events.
use Rattle.std.specs.Prelude.{◌≡◌, ℕ, List}
use Rattle.tsb_field_log.specs.Streets.{Follows}
use Rattle.tsb_field_log.specs.Pushed.{last_tick, AreInOrder}
use Rattle.tsb_field_log.specs.declared.inputs.Wire.{Wire}
use Rattle.tsb_field_log.specs.declared.inputs.InputEvent.{InputEvent}
use Rattle.tsb_field_log.specs.declared.street.Street.{Street}

-- a street of which tick 1 begins at this moment has taken these events, in order, on these wires
pub record HasTaken (from : ℕ) (wires : List Wire) (events : List InputEvent) (street : Street) : Type 0 where
  pub follows : Follows wires events street
  pub began : street.from ≡ from
  pub tick : street.tick ≡ last_tick from events
  pub ordered : AreInOrder from events
