-- Mistakes in what lines ask, each with an example in which it differs from the definition.
use Rattle.std.specs.Prelude.{◌≡◌, ℕ, ◌*◌, ◌+◌, ◌==◌, nat_lt, List, [], ◌∷◌, ◌++◌, length, codes, bytes_eq, if◌then◌else◌, Option, Some, None, refl}
use Rattle.std.specs.List.{repeat}
use Rattle.std.specs.Option.{option_map, option_or}
use Rattle.tsb_lines.specs.Lines.{is_blank, is_comment, is_skipped, kept, without_return}
use Rattle.tsb_lines.specs.Words.{number_of, words_of}
use Rattle.tsb_command_text.specs.Commands.{command_in, command_of_one, command_of_two, command_of_three}
use Rattle.tsb_command_text.specs.Lamps.{head_number}
use Rattle.tsb_command_text.specs.Readings.{lines_of_two, reading}
use Rattle.tsb_command_text.specs.declared.command.Command.TheVariants.{Step, Show, Undo}
use Rattle.tsb_command_text.specs.declared.command.Reading.TheVariants as session
use Rattle.tsb_log_text.specs.tsb_types.Sets.{set_of_detectors, set_of_list, all_off}
use Rattle.tsb_log_text.specs.tsb_types.declared.row.Row.{Row}
use Rattle.tsb_log_text.specs.Forms.{inputs_in}
use Rattle.tsb_log_text.specs.RowLists.{lists_of}
use Rattle.tsb_log_text.specs.Rows.{inputs_of, inputs_with, row_of, field, has_space}
use Rattle.tsb_command_text.specs.LiveCommands.{live_command_in, own_in, own_of_one, own_of_three, own_of_two}
use Rattle.tsb_command_text.specs.LiveReadings.{live_reading, row_or}
use Rattle.tsb_command_text.specs.declared.live_command.LiveCommand.{LiveCommand}
use Rattle.tsb_command_text.specs.declared.live_command.LiveCommand.TheVariants.{Session, Status, Changes}
use Rattle.tsb_command_text.specs.declared.live_command.LiveReading.{LiveReading}
use Rattle.tsb_command_text.specs.declared.live_command.LiveReading.TheVariants.{Skip, Bad, Tick, Ask}

abbrev pub spaces : ℕ → List ℕ
spaces n = repeat n (32 ∷ [])

-- detector 2 is on
abbrev pub on_line : List ℕ
on_line = codes "0100000000000000 00000000 0000"

abbrev pub on : Row
on = record { vehicles = set_of_detectors 2; pedestrians = set_of_list 0; preempts = set_of_list 0 }

is_a_tick : live_reading on_line ≡ Tick on
unfolding live_reading inputs_of lists_of
is_a_tick = refl

is_a_row : row_of (codes "0000001" ++ 32 ∷ on_line) ≡ Some (record { tick = 1; row = on })
unfolding row_of inputs_of
is_a_row = refl

-- ## Spaces before a row are dropped, as those before a command

abbrev pub past_spaces : List ℕ → List ℕ
past_spaces [] = []
past_spaces (b ∷ bs) = if b == 32 then past_spaces bs else b ∷ bs

abbrev pub reading_trimmed : List ℕ → LiveReading
reading_trimmed line =
    if nat_lt 200 (length line) then Bad else
    if is_skipped line then Skip else row_or (inputs_in (past_spaces line)) (live_command_in (words_of line))

is_bad : live_reading (32 ∷ on_line) ≡ Bad
unfolding live_reading inputs_of lists_of own_of_three command_of_three
is_bad = refl

is_malformed : row_of (codes "0000001" ++ 32 ∷ 32 ∷ on_line) ≡ None
unfolding row_of inputs_of
is_malformed = refl

would_be_a_tick : reading_trimmed (32 ∷ on_line) ≡ Tick on
unfolding inputs_of lists_of
would_be_a_tick = refl

-- ## A line may have 250 bytes

abbrev pub reading_to_250 : List ℕ → LiveReading
reading_to_250 line =
    if nat_lt 250 (length line) then Bad else
    if is_skipped line then Skip else row_or (inputs_in line) (live_command_in (words_of line))

abbrev pub long_show : List ℕ
long_show = codes "show" ++ spaces 200

asks_show : live_reading (codes "show") ≡ Ask (Session Show)
unfolding live_reading inputs_of lists_of own_of_one command_of_one
asks_show = refl

reads_show : reading (codes "show") ≡ session.Do Show
unfolding command_of_one
reads_show = refl

is_bad_there : reading long_show ≡ session.Bad
is_bad_there = refl

would_be_asked : reading_to_250 long_show ≡ Ask (Session Show)
unfolding inputs_of lists_of own_of_one command_of_one
would_be_asked = refl

-- ## Comments may have spaces before them

abbrev pub reading_indented : List ℕ → LiveReading
reading_indented line =
    if nat_lt 200 (length line) then Bad else
    if is_blank line then Skip else
    if is_comment (past_spaces line) then Skip else row_or (inputs_in line) (live_command_in (words_of line))

skips_a_comment : live_reading (codes "# a comment") ≡ Skip
unfolding live_reading
skips_a_comment = refl

is_skipped_there : reading (codes "# a comment") ≡ session.Skip
is_skipped_there = refl

is_no_comment : reading (codes " # a comment") ≡ session.Bad
unfolding command_of_three
is_no_comment = refl

would_be_skipped : reading_indented (codes " # a comment") ≡ Skip
would_be_skipped = refl

-- ## A byte that is no 1 counts as a 0

abbrev pub list_loosely : List ℕ → ℕ
list_loosely [] = 0
list_loosely (d ∷ ds) = if d == 49 then 1 + 2 * list_loosely ds else 2 * list_loosely ds

abbrev pub inputs_loosely : List ℕ → Option Row
inputs_loosely digits =
    if length digits == 30 then
    (if has_space 16 digits then
    (if has_space 25 digits
    then inputs_with (Some (list_loosely (field 0 16 digits))) (Some (list_loosely (field 17 8 digits))) (Some (list_loosely (field 26 4 digits)))
    else None)
    else None)
    else None

abbrev pub reading_loosely : List ℕ → LiveReading
reading_loosely line =
    if nat_lt 200 (length line) then Bad else
    if is_skipped line then Skip else row_or (inputs_loosely line) (live_command_in (words_of line))

abbrev pub undo_of_30 : List ℕ
undo_of_30 = codes "undo" ++ spaces 26

asks_undo : live_reading undo_of_30 ≡ Ask (Session Undo)
unfolding live_reading inputs_of lists_of own_of_one command_of_one
asks_undo = refl

reads_undo : reading undo_of_30 ≡ session.Do Undo
unfolding command_of_one
reads_undo = refl

would_be_all_off : reading_loosely undo_of_30 ≡ Tick all_off
would_be_all_off = refl

-- ## `step` prints the lines that differ, and `changes` is no word

abbrev pub own_step : List (List ℕ) → Option LiveCommand
own_step (w ∷ x ∷ []) = if bytes_eq w (codes "step") then option_map Changes (number_of x) else None
own_step ws = None

abbrev pub reading_step_as_changes : List ℕ → LiveReading
reading_step_as_changes line =
    if nat_lt 200 (length line) then Bad else
    if is_skipped line then Skip else
    row_or (inputs_in line) (option_or (own_step (words_of line)) (option_map Session (command_in (words_of line))))

asks_status : live_reading (codes "status") ≡ Ask Status
unfolding live_reading inputs_of lists_of own_of_one
asks_status = refl

is_bad_to_a_session : reading (codes "status") ≡ session.Bad
unfolding command_of_one
is_bad_to_a_session = refl

reads_step : reading (codes "step 5") ≡ session.Do (Step 5)
unfolding command_of_two lines_of_two
reads_step = refl

would_be_changes : reading_step_as_changes (codes "step 5") ≡ Ask (Changes 5)
unfolding inputs_of lists_of
would_be_changes = refl

-- ## `changes` takes no leading zero

abbrev pub own_without_zeros : List (List ℕ) → Option LiveCommand
own_without_zeros (w ∷ x ∷ []) = if bytes_eq w (codes "changes") then option_map Changes (head_number x) else own_of_two w x
own_without_zeros ws = own_in ws

abbrev pub reading_without_zeros : List ℕ → LiveReading
reading_without_zeros line =
    if nat_lt 200 (length line) then Bad else
    if is_skipped line then Skip else
    row_or (inputs_in line) (option_or (own_without_zeros (words_of line)) (option_map Session (command_in (words_of line))))

takes_05 : reading (codes "step 05") ≡ session.Do (Step 5)
unfolding command_of_two lines_of_two
takes_05 = refl

asks_05 : live_reading (codes "changes 05") ≡ Ask (Changes 5)
unfolding live_reading inputs_of lists_of own_of_two
asks_05 = refl

would_be_bad : reading_without_zeros (codes "changes 05") ≡ Bad
unfolding inputs_of lists_of own_of_two command_of_two
would_be_bad = refl

-- ## A blank line is skipped whatever its length

abbrev pub reading_skips_first : List ℕ → LiveReading
reading_skips_first line =
    if is_skipped line then Skip else
    if nat_lt 200 (length line) then Bad else row_or (inputs_in line) (live_command_in (words_of line))

is_too_long : live_reading (spaces 201) ≡ Bad
unfolding live_reading
is_too_long = refl

would_be_blank : reading_skips_first (spaces 201) ≡ Skip
would_be_blank = refl

-- ## 201 bytes of a line are kept

abbrev pub show_and_more : List ℕ
show_and_more = codes "show" ++ spaces 196 ++ codes "\rx"

is_bad_whole : live_reading (without_return show_and_more) ≡ Bad
unfolding live_reading
is_bad_whole = refl

would_be_show : live_reading (without_return (kept 201 show_and_more)) ≡ Ask (Session Show)
unfolding live_reading inputs_of lists_of own_of_one command_of_one
would_be_show = refl
