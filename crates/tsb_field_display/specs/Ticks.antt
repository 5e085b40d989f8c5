-- The moment of a tick, and whether it can be written.
use Rattle.std.specs.Prelude.{ℕ, ◌+◌, ◌-◌, ◌*◌, min}
use Rattle.tsb_event_text.specs.declared.times.Moment.{Moment}
use Rattle.tsb_event_text.specs.Written.{IsWritten}
use Rattle.tsb_field_display.specs.declared.times.TheConstants.{LAST_TICK}

-- how many tenths of a second a tick lies after tick 1; tick 0 is told as tick 1, and one past the last as the last
abbrev pub tenths_of : ℕ → ℕ
tenths_of tick = min tick LAST_TICK - 1

-- the moment of a tick, where this is that of tick 1
abbrev pub moment_of_tick : Moment → ℕ → Moment
moment_of_tick from tick = record { nanos = from.nanos + tenths_of tick * 100000000 }

-- each tick has a moment that a year of four digits has: the first has, and the last
abbrev pub AreWritten : Moment → Type 0
AreWritten from = IsWritten from × IsWritten (moment_of_tick from LAST_TICK)
