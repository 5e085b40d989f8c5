-- One-line mistakes, each with an example that tells it from the definition.
use Rattle.std.specs.Prelude.{◌≡◌, ℕ, ◌+◌, ◌==◌, Bool, true, false, not, List, [], ◌∷◌, ◌++◌, codes, filter, reverse, if◌then◌else◌, Option, Some, None, refl}
use Rattle.tsb_types.specs.Events.{event}
use Rattle.tsb_types.specs.Lists.{run_from}
use Rattle.tsb_types.specs.declared.event.Event.{Event}
use Rattle.tsb_types.specs.declared.lamp.Aspect.TheVariants.{Dark, Yellow}
use Rattle.tsb_types.specs.declared.lamp.PedestrianAspect.TheVariants as pedestrian_aspects
use Rattle.tsb_display_text.specs.Line.{line_of}
use Rattle.tsb_display_text.specs.tsb_heads.Heads.{Heads}
use Rattle.tsb_field_display.specs.declared.shown.Shown.{Shown}
use Rattle.tsb_field_display.specs.declared.shown.Signals.{Signals}
use Rattle.tsb_field_display.specs.Events.{events_of_lines, is_yellow, is_clearance}
use Rattle.tsb_field_display.specs.Reading.{field, is_spelled, signals_of, vehicles_of}
use Rattle.tsb_field_display.specs.Remaining.{changes_of, remaining, before_tick}
use Rattle.tsb_field_display.specs.ReadBack.{lit_after, read_back, says_at}
use Rattle.tsb_field_display.specs.Shows.{are_same_vehicles, aspect_of}
use Rattle.tsb_field_display.proofs.Examples.Examples.{opened, arrow_at, at, red, green, clearing, ending}

-- ## Events without code 9

abbrev pub without : ℕ → List Event → List Event
without code events = filter (λ e. not (e.code == code)) events

abbrev pub lines : List Shown
lines = at 1 green ∷ at 2 ending ∷ at 3 red ∷ []

-- the head that is red is told as yellow
still_yellow : (read_back (without 9 (events_of_lines lines))).yellow 2 ≡ true
unfolding opened
still_yellow = refl

is_red : is_yellow red 2 ≡ false
is_red = refl

-- ## Code 23 left out where clearance ends

abbrev pub crossing : List Shown
crossing = at 1 green ∷ at 2 clearing ∷ at 3 ending ∷ []

-- the head that shows don't walk is told as clearance
left_out : (read_back (without 23 (events_of_lines crossing))).clearance 2 ≡ true
unfolding opened
left_out = refl

ends_now : is_clearance ending 2 ≡ false
ends_now = refl

-- ## A line of the same tick stands beside the one before

abbrev pub beside : List Shown → Shown → List Shown
beside kept line = before_tick (1 + line.tick) kept ++ line ∷ []

twice : beside (at 1 red ∷ at 2 green ∷ []) (at 2 red) ≡ at 1 red ∷ at 2 green ∷ at 2 red ∷ []
twice = refl

once : remaining (at 1 red ∷ at 2 green ∷ at 2 red ∷ []) ≡ at 1 red ∷ at 2 red ∷ []
once = refl

-- ## The letters of a field are read from the last

-- a display with phase 2 yellow and preempt 3 in service, as it is written
abbrev pub heads : Heads
heads = record {
  vehicle = λ p. if p == 2 then Yellow else Dark;
  pedestrian = λ p. pedestrian_aspects.Dark;
  overlap = λ o. Dark;
}

abbrev pub written : List ℕ
written = line_of 101 heads (Some 3) (Some 759)

is_written : written ≡ codes "0000101 -Y-------------- ---------------- ---- 3 0759"
unfolding line_of run_from
is_written = refl

shows_2 : aspect_of (signals_of false written).vehicles 2 ≡ Yellow
unfolding line_of run_from
shows_2 = refl

would_show_15 : aspect_of (vehicles_of (reverse (field 8 16 written))) 15 ≡ Yellow
unfolding line_of run_from
would_show_15 = refl

would_not_show_2 : aspect_of (vehicles_of (reverse (field 8 16 written))) 2 ≡ Dark
unfolding line_of run_from
would_not_show_2 = refl

-- ## A line shows something else only where a vehicle head does

abbrev pub vehicle_changes_after : Signals → List Shown → List Shown
vehicle_changes_after before [] = []
vehicle_changes_after before (line ∷ lines) =
    if are_same_vehicles before.vehicles line.signals.vehicles then vehicle_changes_after before lines
    else line ∷ vehicle_changes_after line.signals lines

abbrev pub walks_then_clears : List Shown
walks_then_clears = at 1 green ∷ at 2 green ∷ at 3 clearing ∷ []

tells_clearance : events_of_lines (changes_of walks_then_clears)
    ≡ event 1 1 2 ∷ event 1 21 2 ∷ event 1 61 1 ∷ event 3 22 2 ∷ event 3 105 1 ∷ []
unfolding opened
tells_clearance = refl

tells_all : events_of_lines walks_then_clears ≡ events_of_lines (changes_of walks_then_clears)
unfolding opened
tells_all = refl

would_tell_none : vehicle_changes_after green (at 2 green ∷ at 3 clearing ∷ []) ≡ []
would_tell_none = refl

-- ## The letter of an arrow that flashes is spelled at phases too

abbrev pub is_spelled_at_phases : List ℕ → Bool
is_spelled_at_phases line = is_spelled (codes "-RYGPF") (field 8 16 line)

would_be_taken : is_spelled_at_phases (codes "0000101 -P-R------------ -D-------------- RP-- 0 ----") ≡ true
would_be_taken = refl

-- ## An arrow that begins to flash is lit still green

abbrev pub says_green_alone : ℕ → Option Bool
says_green_alone code = if code == 61 then Some true else (if code == 63 then Some false else (if code == 64 then Some false else None))

abbrev pub flashes_after_green : List Shown
flashes_after_green = at 1 (arrow_at 71) ∷ at 2 (arrow_at 80) ∷ []

green_ends : (read_back (events_of_lines flashes_after_green)).overlap_green 2 ≡ false
unfolding opened
green_ends = refl

would_stay_green : lit_after (says_at says_green_alone 2) false (events_of_lines flashes_after_green) ≡ true
unfolding opened
would_stay_green = refl
