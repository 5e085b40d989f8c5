-- What a line asks of a live session.
use Rattle.std.specs.Prelude.{ℕ, nat_lt, List, if◌then◌else◌, length, Option, Some, None}
use Rattle.tsb_lines.specs.Lines.{is_skipped}
use Rattle.tsb_lines.specs.Words.{words_of}
use Rattle.tsb_log_text.specs.tsb_types.declared.row.Row.{Row}
use Rattle.tsb_log_text.specs.Forms.{inputs_in}
use Rattle.tsb_command_text.specs.LiveCommands.{live_command_in}
use Rattle.tsb_command_text.specs.declared.live_command.LiveCommand.{LiveCommand}
use Rattle.tsb_command_text.specs.declared.live_command.LiveReading.{LiveReading}
use Rattle.tsb_command_text.specs.declared.live_command.LiveReading.TheVariants.{Skip, Bad, Tick, Ask}

-- what is no row is a command, or is bad
abbrev pub row_or : Option Row → Option LiveCommand → LiveReading
row_or (Some r) c = Tick r
row_or None (Some c) = Ask c
row_or None None = Bad

-- a line of over 200 bytes is bad, also where it is blank or a comment. A row is a row of a log, in
-- either form, without its tick.
unfoldable pub live_reading : List ℕ → LiveReading
live_reading line =
    if nat_lt 200 (length line) then Bad else
    if is_skipped line then Skip else row_or (inputs_in line) (live_command_in (words_of line))
