-- What holds of all that is saved. Each law here is the contract of a function in src/saved/laws.rt, and proved there.
use Rattle.std.specs.Prelude.{◌≡◌, ℕ, ◌-◌, ◌^◌, ◌<◌, ◌≤◌, ◌==◌, ◌||◌, Bool, true, if◌then◌else◌, List, [], ◌∷◌, ◌++◌, length, map, Option, Some, None, Ok}
use Rattle.std.specs.List.{All, list_all}
use Rattle.json.specs.Json.{document}
use Rattle.tsb_lines.specs.Lines.{HasNoFeed, lines_of}
use Rattle.tsb_text.specs.tsb_types.declared.lamp.Lamp.{Lamp}
use Rattle.tsb_text.specs.tsb_types.declared.lamp.Lamp.TheVariants as lamps
use Rattle.tsb_text.specs.tsb_types.declared.limits.TheConstants.{OVERLAPS, PEDESTRIAN_DETECTORS, PREEMPTS, TICKS, VEHICLE_DETECTORS}
use Rattle.tsb_types.specs.declared.clock_time.TheConstants.{FIRST_MOMENT, END_OF_DAYS}
use Rattle.tsb_text.specs.tsb_step.tsb_plan.Plan.{Plan}
use Rattle.tsb_step.specs.declared.inputs.Input.{Input}
use Rattle.tsb_step.specs.declared.inputs.Input.TheVariants.{Tick, Pattern, Switch, Fault, Reset, Begin, Set, Verify, Commit, Abort, Clock, Omit}
use Rattle.tsb_step.specs.Runs.{replay}
use Rattle.tsb_command_text.specs.declared.command.Command.{Command}
use Rattle.tsb_command_text.specs.declared.command.Command.TheVariants as commands
use Rattle.tsb_command_text.specs.declared.command.Reading.TheVariants.{Skip, Do}
use Rattle.tsb_command_text.specs.Readings.{reading}
use Rattle.tsb_log_text.specs.Logs.{log_of}
use Rattle.tsb_text.specs.tsb_types.declared.row.Row.{Row}
use Rattle.tsb_log_text.specs.Forms.{form_for, inputs_in}
use Rattle.tsb_log_text.specs.ListText.{text_in}
use Rattle.tsb_text.specs.declared.kept.Other.{Other}
use Rattle.tsb_text.specs.kept.Kept.{Keeping, kept_of}
use Rattle.tsb_live_text.specs.saved.Saved.{commands_text, saved_json, saved_text}
use Rattle.tsb_live_text.specs.saved.Says.{is_plain}

-- ## JSON

-- the line is JSON, and this value
abbrev pub SavedTextsAreJson : Type 0
SavedTextsAreJson = (kept : Keeping) (now : ℕ) → document (saved_text kept now) ≡ Some (saved_json kept now)

-- ## The log

-- a log can spell the row: its inputs are those that there are
pub record FitsLog (row : Row) : Type 0 where
  pub vehicles : row.vehicles.word < 2 ^ VEHICLE_DETECTORS
  pub pedestrians : row.pedestrians.word < 2 ^ PEDESTRIAN_DETECTORS
  pub preempts : row.preempts.word < 2 ^ PREEMPTS

-- each tick of these inputs has such a row
abbrev pub AreFit : List Input → Type 0
AreFit [] = Unit {0}
AreFit (Tick row ∷ is) = FitsLog row × AreFit is
AreFit (i ∷ is) = AreFit is

-- the text of the log is read as the rows that are kept, where it has at most 64 MiB
abbrev pub LogsAreRead : Type 0
LogsAreRead = (plan : Plan) (is : List Input) → AreFit is → (replay plan is).now ≤ TICKS → length (text_in (form_for (kept_of plan is).rows) (kept_of plan is).rows) ≤ 67108864
    → log_of (text_in (form_for (kept_of plan is).rows) (kept_of plan is).rows) ≡ Ok (kept_of plan is).rows

-- ## The commands

-- a number of 1 to this one
abbrev pub IsUpTo : ℕ → ℕ → Type 0
IsUpTo most n = (1 ≤ n) × (n ≤ most)

-- a lamp of a head that there is
abbrev pub IsLamp : Lamp → Type 0
IsLamp (lamps.Phase p color) = IsUpTo 16 p
IsLamp (lamps.Overlap o color) = IsUpTo OVERLAPS o
IsLamp (lamps.Arrow o) = IsUpTo OVERLAPS o
IsLamp (lamps.Pedestrian p color) = IsUpTo 16 p

-- the lamp of a fault, if there is one
abbrev pub IsFault : Option Lamp → Type 0
IsFault None = Unit {0}
IsFault (Some lamp) = IsLamp lamp

-- an input whose numbers are such as commands have
abbrev pub IsSpelled : Input → Type 0
IsSpelled (Tick row) = Unit {0}
IsSpelled (Pattern n) = n < 2 ^ 32
IsSpelled (Switch n on) = n < 2 ^ 32
IsSpelled (Fault lamp) = IsFault lamp
IsSpelled Reset = Unit {0}
IsSpelled (Begin station) = IsUpTo 4 station
IsSpelled (Set station id v) = IsUpTo 4 station × (id.index < 2 ^ 32) × (v < 2 ^ 32)
IsSpelled (Verify station) = IsUpTo 4 station
IsSpelled (Commit station) = IsUpTo 4 station
IsSpelled (Abort station) = IsUpTo 4 station
IsSpelled (Omit list) = list < 2 ^ 32
IsSpelled (Clock time) = (FIRST_MOMENT ≤ time) × (time < END_OF_DAYS)

-- each of these inputs is, and its tick is a number
abbrev pub AreSpelled : List Other → Type 0
AreSpelled [] = Unit {0}
AreSpelled (o ∷ os) = (o.tick < 2 ^ 32) × IsSpelled o.input × AreSpelled os

-- the command that is an input; a tick is none
abbrev pub command_of : Input → List Command
command_of (Tick row) = []
command_of (Pattern n) = commands.Pattern n ∷ []
command_of (Switch n on) = commands.Preempt n on ∷ []
command_of (Fault lamp) = commands.Fault lamp ∷ []
command_of Reset = commands.Reset ∷ []
command_of (Begin station) = commands.Begin station ∷ []
command_of (Set station id v) = commands.Set station id v ∷ []
command_of (Verify station) = commands.Verify station ∷ []
command_of (Commit station) = commands.Commit station ∷ []
command_of (Abort station) = commands.Abort station ∷ []
command_of (Omit list) = commands.Omit list ∷ []
command_of (Clock time) = commands.Clock time ∷ []

-- so many ticks; none need no command
abbrev pub steps : ℕ → List Command
steps n = if n == 0 then [] else commands.Step n ∷ []

-- ticks up to each of these inputs, and it; then ticks up to `now`. Tick t is in force before them.
abbrev pub commands_at : ℕ → List Other → ℕ → List Command
commands_at now [] t = steps (now - t)
commands_at now (o ∷ os) t = steps (o.tick - t) ++ (command_of o.input ++ commands_at now os o.tick)

-- the lines of the commands are read as these, and what follows the last line feed is skipped
abbrev pub CommandsAreRead : Type 0
CommandsAreRead = (kept : Keeping) (now : ℕ) → now < 2 ^ 32 → AreSpelled kept.others
    → map reading (lines_of (commands_text kept now)) ≡ map Do (commands_at now kept.others 0) ++ Skip ∷ []

-- ## Bytes

-- printable ASCII without quotes and backslashes, or a line feed
abbrev pub is_easy : ℕ → Bool
is_easy b = (b == 10) || is_plain b

-- both texts have such bytes alone, so that no byte but a line feed needs an escape; and the line has no line feed
abbrev pub AreEasy : Type 0
AreEasy = (kept : Keeping) (now : ℕ) → now < 2 ^ 32 → AreSpelled kept.others
    → (list_all is_easy (text_in (form_for kept.rows) kept.rows) ≡ true) × (list_all is_easy (commands_text kept now) ≡ true) × HasNoFeed (saved_text kept now)

-- ## What was read

-- an input whose command was read in a line
abbrev pub ReadsAreSpelled : Type 0
ReadsAreSpelled = (line : List ℕ) (c : Command) (i : Input) → reading line ≡ Do c → command_of i ≡ c ∷ [] → IsSpelled i

-- the inputs that were read in a row
abbrev pub RowsReadAreFit : Type 0
RowsReadAreFit = (line : List ℕ) (row : Row) → inputs_in line ≡ Some row → FitsLog row

-- what is kept of such inputs, up to the last tick of a bench
abbrev pub KeptAreSpelled : Type 0
KeptAreSpelled = (plan : Plan) (is : List Input) → All IsSpelled is → (replay plan is).now ≤ TICKS → AreSpelled (kept_of plan is).others
