-- The commands of a session, by the words of a line.
use Rattle.std.specs.Prelude.{ℕ, nat_lt, Bool, true, false, List, [], ◌∷◌, if◌then◌else◌, length, Option, Some, None, codes, bytes_eq}
use Rattle.std.specs.Option.{option_map}
use Rattle.tsb_command_text.specs.clock.ClockText.{clock_of}
use Rattle.tsb_lines.specs.Words.{words_of, number_of}
use Rattle.tsb_plan.specs.Names.{object_named}
use Rattle.tsb_plan.specs.declared.object.Object.{Object}
use Rattle.tsb_plan.specs.declared.version.TheConstants.Version.{NEWEST}
use Rattle.tsb_types.specs.declared.watch.Watch.{Watch}
use Rattle.tsb_types.specs.declared.watch.Watch.TheVariants.{Interval, Ped, Call, Output, Alarm, Stage, Trip}
use Rattle.tsb_command_text.specs.Lamps.{phase_of, detector_of, station_of, lamp_of}
use Rattle.tsb_command_text.specs.declared.command.Command.{Command}
use Rattle.tsb_command_text.specs.declared.command.Command.TheVariants.{Step, Back, Seek, Undo, Show, When, Begin, Set, Verify, Commit, Abort, Pattern, Preempt, Fault, Reset, Clock, Omit, Quit}

-- what is watched, by one word and by two
abbrev pub watch_of_one : List ℕ → Option Watch
watch_of_one w =
    if bytes_eq w (codes "stage") then Some Stage else
    if bytes_eq w (codes "trip") then Some Trip else None

-- of a phase its interval, pedestrian part or call; of a vehicle detector its output or alarm
abbrev pub watch_of_two : List ℕ → List ℕ → Option Watch
watch_of_two w n =
    if bytes_eq w (codes "interval") then option_map Interval (phase_of n) else
    if bytes_eq w (codes "ped") then option_map Ped (phase_of n) else
    if bytes_eq w (codes "call") then option_map Call (phase_of n) else
    if bytes_eq w (codes "output") then option_map Output (detector_of n) else
    if bytes_eq w (codes "alarm") then option_map Alarm (detector_of n) else None

-- whether a switch is to be on
abbrev pub on_or_off : List ℕ → Option Bool
on_or_off w =
    if bytes_eq w (codes "on") then Some true else
    if bytes_eq w (codes "off") then Some false else None

-- any number is a command here; the bench refuses one that is no preempt (E10)
abbrev pub preempt_of : Option ℕ → Option Bool → Option Command
preempt_of (Some n) (Some on) = Some (Preempt n on)
preempt_of n on = None

-- any index and value are a command here; the desk refuses what a plan does not take (E2, E3)
abbrev pub set_of : Option ℕ → Option Object → Option ℕ → Option ℕ → Option Command
set_of (Some s) (Some o) (Some i) (Some v) = Some (Set s (record { object = o; index = i }) v)
set_of s o i v = None

-- the command of one word
unfoldable pub command_of_one : List ℕ → Option Command
command_of_one w =
    if bytes_eq w (codes "undo") then Some Undo else
    if bytes_eq w (codes "show") then Some Show else
    if bytes_eq w (codes "reset") then Some Reset else
    if bytes_eq w (codes "quit") then Some Quit else None

-- of two
unfoldable pub command_of_two : List ℕ → List ℕ → Option Command
command_of_two w x =
    if bytes_eq w (codes "step") then option_map Step (number_of x) else
    if bytes_eq w (codes "back") then option_map Back (number_of x) else
    if bytes_eq w (codes "seek") then option_map Seek (number_of x) else
    if bytes_eq w (codes "pattern") then option_map Pattern (number_of x) else
    if bytes_eq w (codes "omit") then option_map Omit (number_of x) else
    if bytes_eq w (codes "when") then option_map When (watch_of_one x) else
    if bytes_eq w (codes "begin") then option_map Begin (station_of x) else
    if bytes_eq w (codes "verify") then option_map Verify (station_of x) else
    if bytes_eq w (codes "commit") then option_map Commit (station_of x) else
    if bytes_eq w (codes "abort") then option_map Abort (station_of x) else
    if bytes_eq w (codes "fault") then (if bytes_eq x (codes "none") then Some (Fault None) else None) else None

-- of three
unfoldable pub command_of_three : List ℕ → List ℕ → List ℕ → Option Command
command_of_three w x y =
    if bytes_eq w (codes "when") then option_map When (watch_of_two x y) else
    if bytes_eq w (codes "preempt") then preempt_of (number_of x) (on_or_off y) else
    if bytes_eq w (codes "fault") then option_map (λ l. Fault (Some l)) (lamp_of x y) else
    if bytes_eq w (codes "clock") then option_map Clock (clock_of x y) else None

-- of five
unfoldable pub command_of_five : List ℕ → List ℕ → List ℕ → List ℕ → List ℕ → Option Command
command_of_five w s o i v =
    if bytes_eq w (codes "set") then set_of (station_of s) (object_named NEWEST o) (number_of i) (number_of v) else None

-- the command that these words are
abbrev pub command_in : List (List ℕ) → Option Command
command_in (w ∷ []) = command_of_one w
command_in (w ∷ x ∷ []) = command_of_two w x
command_in (w ∷ x ∷ y ∷ []) = command_of_three w x y
command_in (w ∷ s ∷ o ∷ i ∷ v ∷ []) = command_of_five w s o i v
command_in ws = None

-- the command of a line without its end. A line of over 200 bytes has none.
abbrev pub command_of : List ℕ → Option Command
command_of line = if nat_lt 200 (length line) then None else command_in (words_of line)
