-- What is written is read again. The law here is the contract of a function in src/laws.rt, and proved there.
use Rattle.std.specs.Prelude.{◌≡◌, ℕ, ◌%◌, ◌<◌, ◌≤◌, Some}
use Rattle.tsb_types.specs.declared.clock_time.TheConstants.{DAY, FIRST_MOMENT, END_OF_DAYS}
use Rattle.tsb_command_text.specs.clock.ClockText.{clock_of, date_of, date_text, time_text}

-- each time that a clock can be set to is read again from the two words that it is written as
abbrev pub ClocksAreRead : Type 0
ClocksAreRead = (time : ℕ) → FIRST_MOMENT ≤ time → time < END_OF_DAYS → clock_of (date_text (date_of time)) (time_text (time % DAY)) ≡ Some time
