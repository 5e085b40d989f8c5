-- The ticks that lead to a moment of the clock. Moments and times are in tenths of a second, which are ticks.
use Rattle.std.specs.Prelude.{ℕ, ◌+◌, ◌-◌, ◌*◌, ◌/◌, nat_le, if◌then◌else◌, Option, Some, None, Result, Ok, Err}
use Rattle.tsb_types.specs.declared.clock_time.TheConstants.{DAY}
use Rattle.tsb_types.specs.declared.limits.TheConstants.{TICKS}
use Rattle.tsb_types.specs.declared.refusal.Refusal.TheVariants.{TickLimit}
use Rattle.tsb_command_text.specs.declared.command.Command.{Command}
use Rattle.tsb_command_text.specs.declared.command.Command.TheVariants.{Step, Seek}
use Rattle.tsb_command_text.specs.declared.live_command.Aim.{Aim}
use Rattle.tsb_command_text.specs.declared.live_command.Aim.TheVariants.{Time, Moment}
use Rattle.tsb_text.specs.declared.faults.LineFault.{LineFault}
use Rattle.tsb_text.specs.declared.faults.LineFault.TheVariants.{BadCommand, Refused}

-- the moment that is named, where the clock has the moment `present`: a time alone is one of the day of that
abbrev pub moment_of : ℕ → Aim → ℕ
moment_of present (Time time) = present / DAY * DAY + time
moment_of present (Moment m) = m

-- a tick that there is; E11 for a greater one
abbrev pub tick_within : ℕ → Result ℕ LineFault
tick_within t = if nat_le t TICKS then Ok t else Err (Refused TickLimit)

-- the first tick at or after the moment that is named, where tick number 0 is at moment `start` and tick number `now` is in
-- force. Without a clock there is no such command.
abbrev pub tick_of : Option ℕ → ℕ → Aim → Result ℕ LineFault
tick_of None now aim = Err BadCommand
tick_of (Some start) now aim = tick_within (moment_of (start + now) aim - start)

-- the command that leads to tick t: the way back, or ticks up to it
abbrev pub command_to : ℕ → ℕ → Command
command_to now t = if nat_le t now then Seek t else Step (t - now)
