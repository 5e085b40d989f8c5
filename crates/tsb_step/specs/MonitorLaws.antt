-- What holds of the cells of the monitor and of the injected lamp: which rows they can hold at a tick, and that rows
-- and states give one another. Proved as the contract of a function in src/monitor_laws.rt.
use Rattle.std.specs.Prelude.{◌≡◌, ℕ, ◌≤◌, List, length, slice_index, Option, Some, None}
use Rattle.tsb_types.specs.declared.lamp.Lamp.{Lamp}
use Rattle.tsb_types.specs.declared.lamp.Lamp.TheVariants as lamps
use Rattle.tsb_types.specs.declared.limits.TheConstants.{OVERLAPS}
use Rattle.tsb_heads.specs.declared.monitor.Trip.{Trip}
use Rattle.tsb_heads.specs.declared.monitor.Trip.TheVariants.{Conflict, GreenToRed}
use Rattle.tsb_step.specs.declared.TheConstants.{MONITOR_CELLS}
use Rattle.tsb_step.specs.State.{Tripped}
use Rattle.tsb_step.specs.MonitorCells.{monitor_cells, lamp_in, trip_in}

-- a number from 1 to n
abbrev pub IsUpTo : ℕ → ℕ → Type 0
IsUpTo n k = (1 ≤ k) × (k ≤ n)

-- ## Rows that the monitor can hold at tick `now`

-- so many cells, each in its range, 0 where it has nothing to say, with no trip of a later tick
pub record IsMonitorBy (now : ℕ) (row : List ℕ) : Type 0 where
  pub full : length row ≡ MONITOR_CELLS
  pub cause : slice_index row 0 ≤ 2
  pub untripped : slice_index row 0 ≡ 0 → (slice_index row 1 ≡ 0) × (slice_index row 2 ≡ 0) × (slice_index row 3 ≡ 0)
  pub first : 1 ≤ slice_index row 0 → IsUpTo 16 (slice_index row 1)
  pub second : slice_index row 0 ≡ 1 → IsUpTo 16 (slice_index row 2)
  pub alone : slice_index row 0 ≡ 2 → slice_index row 2 ≡ 0
  pub tick : slice_index row 3 ≤ now
  pub kind : slice_index row 4 ≤ 4
  pub unlit : slice_index row 4 ≡ 0 → (slice_index row 5 ≡ 0) × (slice_index row 6 ≡ 0)
  pub phase : 1 ≤ slice_index row 4 → slice_index row 4 ≤ 2 → IsUpTo 16 (slice_index row 5)
  pub overlap : 3 ≤ slice_index row 4 → IsUpTo OVERLAPS (slice_index row 5)
  pub arrow : slice_index row 4 ≡ 4 → slice_index row 6 ≡ 0
  pub color : slice_index row 6 ≤ 2

-- ## States that it can hold: phases and overlaps are among those that there are, and no trip is of a later tick

-- each phase that it names is one of 1 to 16
abbrev pub IsCause : Trip → Type 0
IsCause (Conflict p q) = IsUpTo 16 p × IsUpTo 16 q
IsCause (GreenToRed p) = IsUpTo 16 p

-- none, or one of such a cause and of tick `now` or before
abbrev pub IsTrip : ℕ → Option Tripped → Type 0
IsTrip now None = Unit {0}
IsTrip now (Some trip) = IsCause trip.cause × (trip.tick ≤ now)

-- none, or one in a head of phases 1 to 16 or of an overlap
abbrev pub IsLamp : Option Lamp → Type 0
IsLamp None = Unit {0}
IsLamp (Some (lamps.Phase p color)) = IsUpTo 16 p
IsLamp (Some (lamps.Pedestrian p color)) = IsUpTo 16 p
IsLamp (Some (lamps.Overlap o color)) = IsUpTo OVERLAPS o
IsLamp (Some (lamps.Arrow o)) = IsUpTo OVERLAPS o

-- ## Laws

-- a row that the monitor can hold is the table of what it says
abbrev pub MonitorRowsAreTold : Type 0
MonitorRowsAreTold = (now : ℕ) (row : List ℕ) → IsMonitorBy now row → monitor_cells (lamp_in row) (trip_in row) ≡ row

-- the table of a lamp and a trip is read as them, and is a row that the monitor can hold
abbrev pub MonitorStatesAreRead : Type 0
MonitorStatesAreRead = (now : ℕ) (lamp : Option Lamp) (trip : Option Tripped) → IsLamp lamp → IsTrip now trip →
    (lamp_in (monitor_cells lamp trip) ≡ lamp) × (trip_in (monitor_cells lamp trip) ≡ trip) × IsMonitorBy now (monitor_cells lamp trip)

-- a row that the monitor can hold at a tick it can hold at each later one
abbrev pub MonitorRowsStay : Type 0
MonitorRowsStay = (m n : ℕ) (row : List ℕ) → m ≤ n → IsMonitorBy m row → IsMonitorBy n row
