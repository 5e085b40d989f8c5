-- The commands of a live session, by the words of a line.
use Rattle.std.specs.Prelude.{ℕ, List, [], ◌∷◌, if◌then◌else◌, Option, Some, None, codes, bytes_eq}
use Rattle.std.specs.Option.{option_map, option_or}
use Rattle.tsb_lines.specs.Words.{number_of}
use Rattle.tsb_command_text.specs.Commands.{command_in, on_or_off}
use Rattle.tsb_command_text.specs.Lamps.{from_one_to}
use Rattle.tsb_command_text.specs.Readings.{lines_of_two}
use Rattle.tsb_types.specs.declared.limits.TheConstants.{VEHICLE_DETECTORS, PEDESTRIAN_DETECTORS, PREEMPTS}
use Rattle.tsb_command_text.specs.clock.ClockText.{clock_of, time_in_word}
use Rattle.tsb_log_text.specs.declared.row_input.RowInput.{RowInput}
use Rattle.tsb_log_text.specs.declared.row_input.RowInput.TheVariants.{Vehicle, Pedestrian, Preempt}
use Rattle.tsb_command_text.specs.declared.live_command.Aim.TheVariants.{Time, Moment}
use Rattle.tsb_command_text.specs.declared.live_command.LiveCommand.{LiveCommand}
use Rattle.tsb_command_text.specs.declared.live_command.LiveCommand.TheVariants.{Session, Status, Changes, GoTo, TickAt, Plan, Edits, Events, Echo, Lines, Save, Help, When}

-- of the commands that are asked live alone that of one word
unfoldable pub own_of_one : List ℕ → Option LiveCommand
own_of_one w =
    if bytes_eq w (codes "status") then Some Status else
    if bytes_eq w (codes "plan") then Some Plan else
    if bytes_eq w (codes "edits") then Some Edits else
    if bytes_eq w (codes "save") then Some Save else
    if bytes_eq w (codes "help") then Some Help else None

-- of two
unfoldable pub own_of_two : List ℕ → List ℕ → Option LiveCommand
own_of_two w x =
    if bytes_eq w (codes "changes") then option_map Changes (number_of x) else
    if bytes_eq w (codes "goto") then option_map (λ t. GoTo (Time t)) (time_in_word x) else
    if bytes_eq w (codes "tick") then option_map (λ t. TickAt (Time t)) (time_in_word x) else
    if bytes_eq w (codes "events") then option_map Events (on_or_off x) else
    if bytes_eq w (codes "echo") then option_map Echo (on_or_off x) else
    if bytes_eq w (codes "lines") then option_map Lines (lines_of_two w x) else None

-- the number that a word is, where it is 1 to most: leading zeros are allowed
abbrev pub number_to : ℕ → List ℕ → Option ℕ
number_to most w = from_one_to most (number_of w)

-- the input of rows that these words name: of a vehicle detector, of a pedestrian detector, of a preempt
abbrev pub input_of_two : List ℕ → List ℕ → Option RowInput
input_of_two w n =
    if bytes_eq w (codes "input") then option_map Vehicle (number_to VEHICLE_DETECTORS n) else
    if bytes_eq w (codes "button") then option_map Pedestrian (number_to PEDESTRIAN_DETECTORS n) else
    if bytes_eq w (codes "preempt") then option_map Preempt (number_to PREEMPTS n) else None

-- of three
unfoldable pub own_of_three : List ℕ → List ℕ → List ℕ → Option LiveCommand
own_of_three w x y =
    if bytes_eq w (codes "when") then option_map When (input_of_two x y) else
    if bytes_eq w (codes "goto") then option_map (λ m. GoTo (Moment m)) (clock_of x y) else
    if bytes_eq w (codes "tick") then option_map (λ m. TickAt (Moment m)) (clock_of x y) else None

-- of these words
abbrev pub own_in : List (List ℕ) → Option LiveCommand
own_in (w ∷ []) = own_of_one w
own_in (w ∷ x ∷ []) = own_of_two w x
own_in (w ∷ x ∷ y ∷ []) = own_of_three w x y
own_in ws = None

-- the command that these words are: one that is asked live alone, or one of `tsb run`
abbrev pub live_command_in : List (List ℕ) → Option LiveCommand
live_command_in ws = option_or (own_in ws) (option_map Session (command_in ws))
