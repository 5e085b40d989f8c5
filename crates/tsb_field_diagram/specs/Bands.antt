-- The bands of a diagram, and what each shows.
use Rattle.std.specs.Prelude.{ℕ, nat_le, Bool, ◌&&◌, if◌then◌else◌, Option}
use Rattle.tsb_types.specs.Lists.{is}
use Rattle.tsb_types.specs.Sets.{has_detector, has_number}
use Rattle.tsb_types.specs.declared.detector_set.DetectorSet.{DetectorSet}
use Rattle.tsb_types.specs.declared.limits.TheConstants.{VEHICLE_DETECTORS}
use Rattle.tsb_types.specs.declared.number_set.NumberSet.{NumberSet}
use Rattle.tsb_field_display.specs.Events.{is_in_flash}
use Rattle.tsb_field_display.specs.declared.shown.PedestrianHeads.{PedestrianHeads}
use Rattle.tsb_field_display.specs.declared.shown.Shown.{Shown}
use Rattle.tsb_field_display.specs.declared.shown.Signals.{Signals}
use Rattle.tsb_field_display.specs.declared.shown.VehicleHeads.{VehicleHeads}
use Rattle.tsb_log_text.specs.declared.log.LogRow.{LogRow}
use Rattle.tsb_types.specs.declared.row.Row.{Row}
use Rattle.tsb_field_diagram.specs.declared.band.Band.{Band}
use Rattle.tsb_field_diagram.specs.declared.band.BandKind.{BandKind}
use Rattle.tsb_field_diagram.specs.declared.band.BandKind.TheVariants as kinds
use Rattle.tsb_field_diagram.specs.declared.band.BandMark.{BandMark}
use Rattle.tsb_field_diagram.specs.declared.band.BandMark.TheVariants as marks

-- a set of numbers from 1 to 16 has the number
abbrev pub shows : NumberSet → ℕ → Bool
shows set n = nat_le 1 n && (nat_le n 16 && has_number set n)

-- a set of vehicle detectors has the number
abbrev pub shows_detector : DetectorSet → ℕ → Bool
shows_detector set n = nat_le 1 n && (nat_le n VEHICLE_DETECTORS && has_detector set n)

-- what a vehicle head shows
abbrev pub vehicle_mark : ℕ → VehicleHeads → BandMark
vehicle_mark n heads =
    if shows heads.greens n then marks.Green else
    (if shows heads.yellows n then marks.Yellow else
    (if shows heads.reds n then marks.Red else
    (if shows heads.flashing n then marks.Flashing else
    (if shows heads.arrows n then marks.Arrow else marks.Dark))))

-- what a pedestrian head shows
abbrev pub pedestrian_mark : ℕ → PedestrianHeads → BandMark
pedestrian_mark n heads =
    if shows heads.walks n then marks.Walk else
    (if shows heads.clearances n then marks.Clearance else
    (if shows heads.dont_walks n then marks.DontWalk else marks.Dark))

-- what the band of a preempt shows
abbrev pub served_mark : ℕ → Option ℕ → BandMark
served_mark n preempt = if is n preempt then marks.Served else marks.Dark

-- what the band of flash shows
abbrev pub flash_mark : Bool → BandMark
flash_mark flash = if flash then marks.Flashing else marks.Dark

-- what the band of an input shows
abbrev pub on_mark : Bool → BandMark
on_mark on = if on then marks.On else marks.Dark

-- what a band of this kind and number shows of signals: nothing where it is that of an input
abbrev pub signal_mark : BandKind → ℕ → Signals → BandMark
signal_mark kinds.Preempt n s = served_mark n s.preempt
signal_mark kinds.Flash n s = flash_mark (is_in_flash s)
signal_mark kinds.Vehicle n s = vehicle_mark n s.vehicles
signal_mark kinds.Pedestrian n s = pedestrian_mark n s.pedestrians
signal_mark kinds.Overlap n s = vehicle_mark n s.overlaps
signal_mark kinds.VehicleInput n s = marks.Dark
signal_mark kinds.PedestrianInput n s = marks.Dark
signal_mark kinds.PreemptInput n s = marks.Dark

-- what it shows of inputs: nothing where it is not that of an input
abbrev pub input_mark : BandKind → ℕ → Row → BandMark
input_mark kinds.Preempt n row = marks.Dark
input_mark kinds.Flash n row = marks.Dark
input_mark kinds.Vehicle n row = marks.Dark
input_mark kinds.Pedestrian n row = marks.Dark
input_mark kinds.Overlap n row = marks.Dark
input_mark kinds.VehicleInput n row = on_mark (shows_detector row.vehicles n)
input_mark kinds.PedestrianInput n row = on_mark (shows row.pedestrians n)
input_mark kinds.PreemptInput n row = on_mark (shows row.preempts n)

-- what a band shows of a display line
abbrev pub mark_in_change : Band → Shown → BandMark
mark_in_change band shown = signal_mark band.kind band.number shown.signals

-- and of a row of a log
abbrev pub mark_in_row : Band → LogRow → BandMark
mark_in_row band row = input_mark band.kind band.number row.row

-- the tick of a display line
abbrev pub tick_of_change : Shown → ℕ
tick_of_change shown = shown.tick

-- and of a row of a log
abbrev pub tick_of_row : LogRow → ℕ
tick_of_row row = row.tick
