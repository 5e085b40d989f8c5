-- What a display line shows, by its bytes: a line of another form shows nothing.
use Rattle.std.specs.Prelude.{ℕ, ◌+◌, ◌-◌, ◌*◌, ◌==◌, ◌&&◌, ◌||◌, nat_le, Bool, List, [], ◌∷◌, if◌then◌else◌, length, take, drop, slice_index, codes, Option, Some, None}
use Rattle.std.specs.List.{list_all}
use Rattle.tsb_lines.specs.Words.{number_of}
use Rattle.tsb_types.specs.Lists.{among}
use Rattle.tsb_types.specs.declared.limits.TheConstants.{PREEMPTS}
use Rattle.tsb_types.specs.declared.number_set.NumberSet.{NumberSet}
use Rattle.tsb_types.specs.Sets.{set_of_list}
use Rattle.tsb_field_display.specs.declared.shown.VehicleHeads.{VehicleHeads}
use Rattle.tsb_field_display.specs.declared.shown.PedestrianHeads.{PedestrianHeads}
use Rattle.tsb_field_display.specs.declared.shown.Signals.{Signals}
use Rattle.tsb_field_display.specs.declared.shown.Shown.{Shown}

-- ## Letters

-- the list of those at which this letter stands, the first letter for number 1
abbrev pub list_with : ℕ → List ℕ → ℕ
list_with letter [] = 0
list_with letter (b ∷ bs) = (if b == letter then 1 else 0) + 2 * list_with letter bs

-- the heads whose letter this is
abbrev pub heads_with : ℕ → List ℕ → NumberSet
heads_with letter letters = set_of_list (list_with letter letters)

-- what letters of vehicle heads show: G, Y, R, F where one flashes, P where an arrow does, and otherwise it is dark
abbrev pub vehicles_of : List ℕ → VehicleHeads
vehicles_of letters = record {
  greens = heads_with 71 letters;
  yellows = heads_with 89 letters;
  reds = heads_with 82 letters;
  flashing = heads_with 70 letters;
  arrows = heads_with 80 letters;
}

-- what letters of pedestrian heads show: W, C for clearance, D, and otherwise one is dark
abbrev pub pedestrians_of : List ℕ → PedestrianHeads
pedestrians_of letters = record {
  walks = heads_with 87 letters;
  clearances = heads_with 67 letters;
  dont_walks = heads_with 68 letters;
}

-- each byte is one of these letters
abbrev pub is_spelled : List ℕ → List ℕ → Bool
is_spelled letters field = list_all (λ b. among b letters) field

-- ## Digits

-- a digit of a preempt in service: 0 where none is, or 1 to 8
abbrev pub is_preempt : ℕ → Bool
is_preempt b = nat_le 48 b && nat_le b (48 + PREEMPTS)

-- the preempt that such a digit tells
abbrev pub preempt_of : ℕ → Option ℕ
preempt_of b = if b == 48 then None else Some (b - 48)

-- the local counter: four digits, or four dashes
abbrev pub is_local : List ℕ → Bool
is_local field = list_all (λ b. nat_le 48 b && nat_le b 57) field || list_all (λ b. b == 45) field

-- ## The line

-- so many bytes from this place on
abbrev pub field : ℕ → ℕ → List ℕ → List ℕ
field place count line = take count (drop place line)

-- a space, at this place
abbrev pub has_space : ℕ → List ℕ → Bool
has_space place line = slice_index line place == 32

-- a space between fields, and letters and digits in their places, in the first 53 bytes
unfoldable pub is_display : List ℕ → Bool
is_display line =
    has_space 7 line && has_space 24 line && has_space 41 line && has_space 46 line && has_space 48 line
    && is_spelled (codes "-RYGF") (field 8 16 line) && is_spelled (codes "-DCW") (field 25 16 line)
    && is_spelled (codes "-RYGPF") (field 42 4 line) && is_preempt (slice_index line 47) && is_local (field 49 4 line)

-- a line has 53 bytes; a wide one has 70, with a space and letters behind those of a line
abbrev pub is_whole : Bool → List ℕ → Bool
is_whole is_wide line =
    if is_wide then length line == 70 && has_space 53 line && is_spelled (codes "-RYGPF") (field 54 16 line) else length line == 53

-- how many overlaps a line shows, or a wide one
abbrev pub overlaps_in : Bool → ℕ
overlaps_in is_wide = if is_wide then 16 else 4

-- their letters: the fourth field, or the seventh of a wide line
abbrev pub overlap_letters : Bool → List ℕ → List ℕ
overlap_letters is_wide line = if is_wide then field 54 16 line else field 42 4 line

-- what the fields show
abbrev pub signals_of : Bool → List ℕ → Signals
signals_of is_wide line = record {
  vehicles = vehicles_of (field 8 16 line);
  pedestrians = pedestrians_of (field 25 16 line);
  overlaps = vehicles_of (overlap_letters is_wide line);
  preempt = preempt_of (slice_index line 47);
}

-- at this tick, if there is one
abbrev pub shown_at : Option ℕ → Signals → Option Shown
shown_at None signals = None
shown_at (Some t) signals = Some (record { tick = t; signals = signals })

-- what a line shows, where lines are wide or not: nothing where it is no display line, or where its first 7 bytes are no
-- digits
unfoldable pub shown_of : Bool → List ℕ → Option Shown
shown_of is_wide line =
    if is_whole is_wide line && is_display line then shown_at (number_of (field 0 7 line)) (signals_of is_wide line) else None
