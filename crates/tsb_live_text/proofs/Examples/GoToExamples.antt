-- Ticks of moments.
use Rattle.std.specs.Prelude.{◌≡◌, ℕ, ◌+◌, Some, None, Ok, Err, refl}
use Rattle.tsb_types.specs.declared.refusal.Refusal.TheVariants.{TickLimit}
use Rattle.tsb_command_text.specs.declared.command.Command.TheVariants.{Step, Seek}
use Rattle.tsb_command_text.specs.declared.live_command.Aim.TheVariants.{Time, Moment}
use Rattle.tsb_text.specs.declared.faults.LineFault.TheVariants.{BadCommand, Refused}
use Rattle.tsb_live_text.specs.GoTo.{command_to, tick_of}

-- tick 0 is at 7:00:00 of the first day
abbrev seven : ℕ
seven = 6912000 + 252000

-- at 7:01:00, 7:02:30.5 is 905 ticks on
is_ahead : tick_of (Some seven) 600 (Time 252905) ≡ Ok 905
is_ahead = refl

takes_ticks : command_to 600 905 ≡ Step 305
takes_ticks = refl

-- and 7:00:00.7 is tick 7
is_past : tick_of (Some seven) 600 (Time 252007) ≡ Ok 7
is_past = refl

goes_back : command_to 600 7 ≡ Seek 7
goes_back = refl

-- the present tick is shown
stays : command_to 600 600 ≡ Seek 600
stays = refl

-- tick 0 comes first after any moment before it
is_before : tick_of (Some seven) 600 (Time 0) ≡ Ok 0
is_before = refl

-- the next day begins at tick 612,000, where a time is one of that day
is_next_day : tick_of (Some seven) 600 (Moment 7776000) ≡ Ok 612000
is_next_day = refl

is_midnight : tick_of (Some seven) 612001 (Time 0) ≡ Ok 612000
is_midnight = refl

-- tick 6,000,000 is the last
is_last : tick_of (Some seven) 600 (Moment 13164000) ≡ Ok 6000000
is_last = refl

is_too_late : tick_of (Some seven) 600 (Moment 13164001) ≡ Err (Refused TickLimit)
is_too_late = refl

has_no_clock : tick_of None 600 (Time 0) ≡ Err BadCommand
has_no_clock = refl
