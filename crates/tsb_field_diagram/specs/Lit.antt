-- Which bands a diagram has: those that ever show something.
use Rattle.std.specs.Prelude.{ℕ, zero, suc, ◌+◌, Bool, not, ◌||◌, if◌then◌else◌, List, [], ◌∷◌, ◌++◌}
use Rattle.std.specs.List.{list_any}
use Rattle.tsb_field_display.specs.declared.shown.Shown.{Shown}
use Rattle.tsb_log_text.specs.declared.log.LogRow.{LogRow}
use Rattle.tsb_types.specs.declared.limits.TheConstants.{OVERLAPS, PEDESTRIAN_DETECTORS, PREEMPTS, VEHICLE_DETECTORS}
use Rattle.tsb_field_diagram.specs.declared.band.Band.{Band}
use Rattle.tsb_field_diagram.specs.declared.band.BandKind.{BandKind}
use Rattle.tsb_field_diagram.specs.declared.band.BandKind.TheVariants as kinds
use Rattle.tsb_field_diagram.specs.declared.band.BandMark.TheVariants.{Dark}
use Rattle.tsb_field_diagram.specs.Bands.{mark_in_change, mark_in_row}
use Rattle.tsb_field_diagram.specs.Bars.{is_same}

-- some change shows something in the band
abbrev pub is_ever_shown : List Shown → Band → Bool
is_ever_shown changes band = list_any (λ change. not (is_same (mark_in_change band change) Dark)) changes

-- some row does
abbrev pub is_ever_on : List LogRow → Band → Bool
is_ever_on rows band = list_any (λ row. not (is_same (mark_in_row band row) Dark)) rows

-- the band ever shows something
abbrev pub is_ever : List Shown → List LogRow → Band → Bool
is_ever changes rows band = is_ever_shown changes band || is_ever_on rows band

-- the band of this kind and number
abbrev pub band : BandKind → ℕ → Band
band kind number = record { kind = kind; number = number }

-- that band, if it ever shows something
unfoldable pub band_if : List Shown → List LogRow → BandKind → ℕ → List Band
band_if changes rows kind number = if is_ever changes rows (band kind number) then band kind number ∷ [] else []

-- those of a kind, of so many numbers after this one
unfoldable pub bands_on : List Shown → List LogRow → BandKind → ℕ → ℕ → List Band
bands_on changes rows kind before zero = []
bands_on changes rows kind before (suc count) =
    band_if changes rows kind (before + 1) ++ bands_on changes rows kind (before + 1) count

-- those of the heads of phases, each with its pedestrian head below it
unfoldable pub phases_on : List Shown → List LogRow → ℕ → ℕ → List Band
phases_on changes rows before zero = []
phases_on changes rows before (suc count) =
    (band_if changes rows kinds.Vehicle (before + 1) ++ band_if changes rows kinds.Pedestrian (before + 1))
    ++ phases_on changes rows (before + 1) count

-- those of a diagram, from top to bottom
abbrev pub bands_of : List Shown → List LogRow → List Band
bands_of changes rows =
    bands_on changes rows kinds.Preempt 0 PREEMPTS ++ (bands_on changes rows kinds.Flash 0 1 ++ (phases_on changes rows 0 16
    ++ (bands_on changes rows kinds.Overlap 0 OVERLAPS ++ (bands_on changes rows kinds.VehicleInput 0 VEHICLE_DETECTORS
    ++ (bands_on changes rows kinds.PedestrianInput 0 PEDESTRIAN_DETECTORS ++ bands_on changes rows kinds.PreemptInput 0 PREEMPTS)))))
