use Rattle.std.proofs.Common.{rules}
use Rattle.tsb_command_text.specs.LiveReadings.{live_reading}
use Rattle.tsb_command_text.proofs.live_read.live_reading_of.Goals as goal

pub returns-then-is_skipped : goal.returns-then-is_skipped
unfolding live_reading
returns-then-is_skipped c = search rules fits 100

pub returns-in-Some : goal.returns-in-Some
unfolding live_reading
returns-in-Some c = search rules fits 100

pub live_command-requires : goal.live_command-requires
unfolding live_reading
live_command-requires c = search rules fits 100

pub returns-in-Some-live_command : goal.returns-in-Some-live_command
unfolding live_reading
returns-in-Some-live_command c = search rules fits 100
