-- What lines ask of a live session.
use Rattle.std.specs.Prelude.{◌≡◌, true, false, codes, refl}
use Rattle.tsb_command_text.specs.Commands.{command_of_one, command_of_two, command_of_three}
use Rattle.tsb_command_text.specs.declared.command.Command.TheVariants as commands
use Rattle.tsb_log_text.specs.tsb_types.Lists.{run_from}
use Rattle.tsb_log_text.specs.tsb_types.Sets.{number_of_bits, set_of_detectors, set_of_list}
use Rattle.tsb_log_text.specs.RowLists.{lists_of}
use Rattle.tsb_log_text.specs.Rows.{inputs_of}
use Rattle.tsb_command_text.specs.LiveCommands.{own_of_one, own_of_three, own_of_two}
use Rattle.tsb_command_text.specs.LiveReadings.{live_reading}
use Rattle.tsb_command_text.specs.Readings.{lines_of_two}
use Rattle.tsb_command_text.specs.declared.live_command.Aim.TheVariants.{Time, Moment}
use Rattle.tsb_command_text.specs.declared.live_command.LiveCommand.TheVariants.{Session, Status, Changes, GoTo, TickAt, Plan, Edits, Events, Echo, Lines, Save, Help}
use Rattle.tsb_command_text.specs.declared.live_command.LiveReading.TheVariants.{Skip, Bad, Tick, Ask}

-- ## Rows

-- vehicle detectors 1 and 16, pedestrian detector 8 and preempt input 3
row : live_reading (codes "1000000000000001 00000001 0010") ≡ Tick (record { vehicles = set_of_detectors 32769; pedestrians = set_of_list 128; preempts = set_of_list 4 })
unfolding live_reading inputs_of lists_of
row = refl

-- vehicle detectors 1, 17, 18 and 64, and preempt input 8
lists : live_reading (codes "V1,17-18,64 E8") ≡ Tick (record { vehicles = set_of_detectors 9223372036854972417; pedestrians = set_of_list 0; preempts = set_of_list 128 })
unfolding live_reading inputs_of lists_of number_of_bits run_from
lists = refl

no-kind-of-lists : live_reading (codes "v1") ≡ Bad
unfolding live_reading inputs_of lists_of own_of_one command_of_one
no-kind-of-lists = refl

no-detector-65 : live_reading (codes "V65") ≡ Bad
unfolding live_reading inputs_of lists_of own_of_one command_of_one
no-detector-65 = refl

no-third-list : live_reading (codes "1000000000000001 00000001 001") ≡ Bad
unfolding live_reading inputs_of lists_of own_of_three command_of_three
no-third-list = refl

other-digit : live_reading (codes "1000000000000002 00000001 0010") ≡ Bad
unfolding live_reading inputs_of lists_of own_of_three command_of_three
other-digit = refl

two-spaces : live_reading (codes "1000000000000001  0000001 0010") ≡ Bad
unfolding live_reading inputs_of lists_of own_of_three command_of_three
two-spaces = refl

-- a row of a log is none of a live session
with-tick : live_reading (codes "0000001 1000000000000001 00000001 0010") ≡ Bad
unfolding live_reading inputs_of lists_of
with-tick = refl

-- ## Commands that are asked live alone

status : live_reading (codes "  status  ") ≡ Ask Status
unfolding live_reading inputs_of lists_of own_of_one
status = refl

plan : live_reading (codes "plan") ≡ Ask Plan
unfolding live_reading inputs_of lists_of own_of_one
plan = refl

edits : live_reading (codes "edits") ≡ Ask Edits
unfolding live_reading inputs_of lists_of own_of_one
edits = refl

help : live_reading (codes "help") ≡ Ask Help
unfolding live_reading inputs_of lists_of own_of_one
help = refl

save : live_reading (codes "save") ≡ Ask Save
unfolding live_reading inputs_of lists_of own_of_one
save = refl

most-changes : live_reading (codes "changes 4294967295") ≡ Ask (Changes 4294967295)
unfolding live_reading inputs_of lists_of own_of_two
most-changes = refl

events-on : live_reading (codes "events on") ≡ Ask (Events true)
unfolding live_reading inputs_of lists_of own_of_two
events-on = refl

events-off : live_reading (codes "events off") ≡ Ask (Events false)
unfolding live_reading inputs_of lists_of own_of_two
events-off = refl

echo-on : live_reading (codes "echo on") ≡ Ask (Echo true)
unfolding live_reading inputs_of lists_of own_of_two
echo-on = refl

echo-off : live_reading (codes "echo off") ≡ Ask (Echo false)
unfolding live_reading inputs_of lists_of own_of_two
echo-off = refl

lines-wide : live_reading (codes "lines wide") ≡ Ask (Lines true)
unfolding live_reading inputs_of lists_of own_of_two lines_of_two
lines-wide = refl

lines-narrow : live_reading (codes "lines narrow") ≡ Ask (Lines false)
unfolding live_reading inputs_of lists_of own_of_two lines_of_two
lines-narrow = refl

lines-broad : live_reading (codes "lines broad") ≡ Bad
unfolding live_reading inputs_of lists_of own_of_two lines_of_two command_of_two
lines-broad = refl

-- 7:42:10.5 is 277,305 tenths after midnight
to-a-time : live_reading (codes "goto 07:42:10.5") ≡ Ask (GoTo (Time 277305))
unfolding live_reading inputs_of lists_of own_of_two
to-a-time = refl

-- 2000-01-01 is day 8
to-a-moment : live_reading (codes "goto 2000-01-01 00:00:01") ≡ Ask (GoTo (Moment 6912010))
unfolding live_reading inputs_of lists_of own_of_three
to-a-moment = refl

tick-at : live_reading (codes "tick 00:00:01") ≡ Ask (TickAt (Time 10))
unfolding live_reading inputs_of lists_of own_of_two
tick-at = refl

-- ## Commands of `tsb run`

step : live_reading (codes "step 600") ≡ Ask (Session (commands.Step 600))
unfolding live_reading inputs_of lists_of own_of_two command_of_two
step = refl

quit : live_reading (codes "quit") ≡ Ask (Session commands.Quit)
unfolding live_reading inputs_of lists_of own_of_one command_of_one
quit = refl

-- ## Lines that are skipped, and bad ones

comment : live_reading (codes "# status") ≡ Skip
unfolding live_reading
comment = refl

blank : live_reading (codes "   ") ≡ Skip
unfolding live_reading
blank = refl

status-of : live_reading (codes "status 1") ≡ Bad
unfolding live_reading inputs_of lists_of own_of_two command_of_two
status-of = refl

no-number : live_reading (codes "changes") ≡ Bad
unfolding live_reading inputs_of lists_of own_of_one command_of_one
no-number = refl

too-many-changes : live_reading (codes "changes 4294967296") ≡ Bad
unfolding live_reading inputs_of lists_of own_of_two command_of_two
too-many-changes = refl

to-no-time : live_reading (codes "goto 24:00:00") ≡ Bad
unfolding live_reading inputs_of lists_of own_of_two command_of_two
to-no-time = refl

events-maybe : live_reading (codes "events maybe") ≡ Bad
unfolding live_reading inputs_of lists_of own_of_two command_of_two
events-maybe = refl

capital : live_reading (codes "Save") ≡ Bad
unfolding live_reading inputs_of lists_of own_of_one command_of_one
capital = refl

tab : live_reading (codes "echo\ton") ≡ Bad
unfolding live_reading inputs_of lists_of own_of_one command_of_one
tab = refl
