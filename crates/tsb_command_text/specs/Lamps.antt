-- Small numbers, and lamps of heads, as commands write them.
use Rattle.std.specs.Prelude.{ℕ, ◌==◌, ◌&&◌, nat_le, List, [], ◌∷◌, if◌then◌else◌, Option, Some, None, option_map, codes, bytes_eq}
use Rattle.tsb_lines.specs.Words.{number_of}
use Rattle.tsb_types.specs.declared.limits.TheConstants.{OVERLAPS, VEHICLE_DETECTORS}
use Rattle.tsb_types.specs.declared.lamp.Lamp.{Lamp}
use Rattle.tsb_types.specs.declared.lamp.Lamp.TheVariants as lamps
use Rattle.tsb_types.specs.declared.lamp.SignalColor.{SignalColor}
use Rattle.tsb_types.specs.declared.lamp.SignalColor.TheVariants as signals
use Rattle.tsb_types.specs.declared.lamp.PedestrianColor.{PedestrianColor}
use Rattle.tsb_types.specs.declared.lamp.PedestrianColor.TheVariants as pedestrians

-- it, where it is 1 to most
abbrev pub from_one_to : ℕ → Option ℕ → Option ℕ
from_one_to most None = None
from_one_to most (Some n) = if nat_le 1 n && nat_le n most then Some n else None

-- the number of a phase, of a detector, of a station: leading zeros are allowed
abbrev pub phase_of : List ℕ → Option ℕ
phase_of w = from_one_to 16 (number_of w)

-- a vehicle detector
abbrev pub detector_of : List ℕ → Option ℕ
detector_of w = from_one_to VEHICLE_DETECTORS (number_of w)

-- a station that shares the desk, 1 to 4
abbrev pub station_of : List ℕ → Option ℕ
station_of w = from_one_to 4 (number_of w)

-- the number after the letter of a head: it has no leading zero
abbrev pub head_number : List ℕ → Option ℕ
head_number [] = None
head_number (d ∷ ds) = if d == 48 then None else number_of (d ∷ ds)

-- green, yellow or red, of a vehicle head or an overlap head
abbrev pub signal_of : List ℕ → Option SignalColor
signal_of w =
    if bytes_eq w (codes "G") then Some signals.Green else
    if bytes_eq w (codes "Y") then Some signals.Yellow else
    if bytes_eq w (codes "R") then Some signals.Red else None

-- walk, pedestrian clearance or don't walk, of a pedestrian head
abbrev pub pedestrian_signal_of : List ℕ → Option PedestrianColor
pedestrian_signal_of w =
    if bytes_eq w (codes "W") then Some pedestrians.Walk else
    if bytes_eq w (codes "C") then Some pedestrians.Clearance else
    if bytes_eq w (codes "D") then Some pedestrians.DontWalk else None

-- f of both, where both are
abbrev pub with_both : {A B C : Type 0} → (A → B → C) → Option A → Option B → Option C
with_both f None b = None
with_both f (Some a) None = None
with_both f (Some a) (Some b) = Some (f a b)

-- the lamp of an overlap's head and an aspect: P is the flashing yellow of an arrow
abbrev pub overlap_lamp : Option ℕ → List ℕ → Option Lamp
overlap_lamp o aspect =
    if bytes_eq aspect (codes "P") then option_map lamps.Arrow o else with_both lamps.Overlap o (signal_of aspect)

-- the lamp of a head and an aspect: P1 to P16 are vehicle heads of phases, O1 to O16 of overlaps, and W1 to W16 are
-- pedestrian heads of phases
abbrev pub lamp_of : List ℕ → List ℕ → Option Lamp
lamp_of [] aspect = None
lamp_of (letter ∷ digits) aspect =
    if letter == 80 then with_both lamps.Phase (from_one_to 16 (head_number digits)) (signal_of aspect) else
    if letter == 79 then overlap_lamp (from_one_to OVERLAPS (head_number digits)) aspect else
    if letter == 87 then with_both lamps.Pedestrian (from_one_to 16 (head_number digits)) (pedestrian_signal_of aspect) else None
