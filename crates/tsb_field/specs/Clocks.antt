-- The clock that a record begins with: that of the moment at which its tick 1 begins.
use Rattle.std.specs.Prelude.{ℕ, ◌-◌, ◌/◌, nat_le, nat_lt, Bool, true, false, not, ◌&&◌, if◌then◌else◌, Option, Some, None}
use Rattle.tsb_types.specs.declared.clock_time.TheConstants.{FIRST_MOMENT, END_OF_DAYS}
use Rattle.tsb_event_text.specs.declared.times.Moment.{Moment}
use Rattle.tsb_field.specs.declared.clock.TheConstants.{TENTH, CLOCK_START}

-- the time so many tenths of a second after 1999-12-24 00:00, where a clock can be set to it: from 2000-01-01 to 2099-12-31
abbrev pub time_at : ℕ → Option ℕ
time_at tenths = if nat_le FIRST_MOMENT tenths && nat_lt tenths END_OF_DAYS then Some tenths else None

-- the tenth of a second of a moment: what is less than a tenth is left out
abbrev pub clock_at : Moment → Option ℕ
clock_at moment = time_at (moment.nanos / TENTH - CLOCK_START)

-- the clock of a record whose tick 1 begins at this moment: none where words say so
abbrev pub clock_of : Bool → Moment → Option ℕ
clock_of no_clock from = if no_clock then None else clock_at from

-- there is no such time
abbrev pub is_none : Option ℕ → Bool
is_none None = true
is_none (Some time) = false

-- a record has to have a clock, and none can be set to the moment at which its tick 1 begins
abbrev pub lacks_clock : Bool → Moment → Bool
lacks_clock no_clock from = not no_clock && is_none (clock_at from)
