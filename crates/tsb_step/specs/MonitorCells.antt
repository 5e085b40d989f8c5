-- The cells of the monitor and of the injected lamp: 7 in a row, and how they are read.
--
-- | Cells | What |
-- |---|---|
-- | 0 | why the controller tripped: 1 a conflict, 2 green to red; 0 where it did not |
-- | 1, 2 | the two phases of the conflict; or the phase that went from green to red, and 0 |
-- | 3 | the tick number at which it tripped |
-- | 4 | the head with the injected lamp: 1 of a phase, 2 a pedestrian head, 3 of an overlap, 4 an arrow that flashes; 0 for no lamp |
-- | 5 | the number of the phase or overlap |
-- | 6 | what it shows: 0 red or don't walk, 1 yellow or clearance, 2 green or walk |
use Rattle.std.specs.Prelude.{ℕ, ◌==◌, if◌then◌else◌, List, [], ◌∷◌, ◌++◌, slice_index, Option, Some, None}
use Rattle.tsb_types.specs.declared.lamp.Lamp.{Lamp}
use Rattle.tsb_types.specs.declared.lamp.Lamp.TheVariants as lamps
use Rattle.tsb_types.specs.declared.lamp.SignalColor.{SignalColor}
use Rattle.tsb_types.specs.declared.lamp.SignalColor.TheVariants as signals
use Rattle.tsb_types.specs.declared.lamp.PedestrianColor.{PedestrianColor}
use Rattle.tsb_types.specs.declared.lamp.PedestrianColor.TheVariants as pedestrians
use Rattle.tsb_heads.specs.declared.monitor.Trip.{Trip}
use Rattle.tsb_heads.specs.declared.monitor.Trip.TheVariants.{Conflict, GreenToRed}
use Rattle.tsb_step.specs.State.{Tripped}

-- ## Writing

-- cells 0 to 3: the cause with its phases, and the tick number; all 0 where it has not tripped
abbrev pub trip_cells : Option Tripped → List ℕ
trip_cells None = 0 ∷ 0 ∷ 0 ∷ 0 ∷ []
trip_cells (Some trip) = cause_cells trip.cause ++ (trip.tick ∷ [])
  where
    cause_cells : Trip → List ℕ
    cause_cells (Conflict p q) = 1 ∷ p ∷ q ∷ []
    cause_cells (GreenToRed p) = 2 ∷ p ∷ 0 ∷ []

-- cell 6 of a lamp in the head of a phase or an overlap
abbrev pub signal_cell : SignalColor → ℕ
signal_cell signals.Red = 0
signal_cell signals.Yellow = 1
signal_cell signals.Green = 2

-- cell 6 of a lamp in a pedestrian head
abbrev pub pedestrian_cell : PedestrianColor → ℕ
pedestrian_cell pedestrians.DontWalk = 0
pedestrian_cell pedestrians.Clearance = 1
pedestrian_cell pedestrians.Walk = 2

-- cells 4 to 6: the kind of head, its number, and what it shows; all 0 where no lamp is lit
abbrev pub lamp_cells : Option Lamp → List ℕ
lamp_cells None = 0 ∷ 0 ∷ 0 ∷ []
lamp_cells (Some (lamps.Phase p color)) = 1 ∷ p ∷ signal_cell color ∷ []
lamp_cells (Some (lamps.Pedestrian p color)) = 2 ∷ p ∷ pedestrian_cell color ∷ []
lamp_cells (Some (lamps.Overlap o color)) = 3 ∷ o ∷ signal_cell color ∷ []
lamp_cells (Some (lamps.Arrow o)) = 4 ∷ o ∷ 0 ∷ []

-- THE TABLE: the cells of the injected lamp and the trip
abbrev pub monitor_cells : Option Lamp → Option Tripped → List ℕ
monitor_cells lamp trip = trip_cells trip ++ lamp_cells lamp

-- ## Reading

-- what cells 0 to 2 say of a trip: 1 in cell 0 is a conflict, anything else green to red
abbrev pub cause_of : ℕ → ℕ → ℕ → Trip
cause_of kind p q = if kind == 1 then Conflict p q else GreenToRed p

-- the trip that a row of 7 has; none where cell 0 is 0
abbrev pub trip_in : List ℕ → Option Tripped
trip_in row =
    if slice_index row 0 == 0 then None
    else Some (record {
      cause = cause_of (slice_index row 0) (slice_index row 1) (slice_index row 2);
      tick = slice_index row 3;
    })

-- cell 6 of a phase or overlap head; a number above 2 would be read as green
abbrev pub signal_of : ℕ → SignalColor
signal_of cell = if cell == 0 then signals.Red else (if cell == 1 then signals.Yellow else signals.Green)

-- cell 6 of a pedestrian head; a number above 2 would be read as walk
abbrev pub pedestrian_of : ℕ → PedestrianColor
pedestrian_of cell = if cell == 0 then pedestrians.DontWalk else (if cell == 1 then pedestrians.Clearance else pedestrians.Walk)

-- what cells 4 to 6 say of a lamp; a kind above 4 would be read as an arrow
abbrev pub lamp_of : ℕ → ℕ → ℕ → Lamp
lamp_of kind n color =
    if kind == 1 then lamps.Phase n (signal_of color) else
    (if kind == 2 then lamps.Pedestrian n (pedestrian_of color) else
    (if kind == 3 then lamps.Overlap n (signal_of color) else lamps.Arrow n))

-- the lamp that a row of 7 has; none where cell 4 is 0
abbrev pub lamp_in : List ℕ → Option Lamp
lamp_in row =
    if slice_index row 4 == 0 then None
    else Some (lamp_of (slice_index row 4) (slice_index row 5) (slice_index row 6))
