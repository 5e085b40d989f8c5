-- What `save` answers: one line of JSON with two members, the text of a log and the lines of commands. `tsb run` takes
-- from them the inputs that are kept: the rows of its ticks from the log, and the other inputs, with the ticks between
-- them, from the commands.
use Rattle.std.specs.Prelude.{ℕ, ◌-◌, ◌%◌, ◌==◌, Bool, true, false, if◌then◌else◌, List, [], ◌∷◌, ◌++◌, Some, None, codes, decimal}
use Rattle.json.specs.Json.{Json, string, object, no_members, member}
use Rattle.json.specs.Print.{print}
use Rattle.json.specs.Tree.{json_tokens}
use Rattle.tsb_types.specs.declared.clock_time.TheConstants.{DAY}
use Rattle.tsb_command_text.specs.clock.ClockText.{date_of, date_text, time_text}
use Rattle.tsb_dialog.specs.Said.{with_feed}
use Rattle.tsb_log_text.specs.Forms.{form_for}
use Rattle.tsb_log_text.specs.ListText.{text_in}
use Rattle.tsb_text.specs.tsb_step.tsb_plan.Names.{name_of}
use Rattle.tsb_text.specs.tsb_types.declared.lamp.Lamp.{Lamp}
use Rattle.tsb_text.specs.tsb_types.declared.lamp.Lamp.TheVariants as lamps
use Rattle.tsb_text.specs.tsb_types.declared.lamp.SignalColor.{SignalColor}
use Rattle.tsb_text.specs.tsb_types.declared.lamp.SignalColor.TheVariants as signals
use Rattle.tsb_text.specs.tsb_types.declared.lamp.PedestrianColor.{PedestrianColor}
use Rattle.tsb_text.specs.tsb_types.declared.lamp.PedestrianColor.TheVariants as pedestrians
use Rattle.tsb_step.specs.declared.inputs.Input.{Input}
use Rattle.tsb_step.specs.declared.inputs.Input.TheVariants.{Tick, Pattern, Switch, Fault, Reset, Begin, Set, Verify, Commit, Abort, Clock, Omit}
use Rattle.tsb_text.specs.declared.kept.Other.{Other}
use Rattle.tsb_text.specs.kept.Kept.{Keeping}

-- ## Commands that are inputs

-- whether a switch is set
abbrev pub switch_word : Bool → List ℕ
switch_word true = codes " on"
switch_word false = codes " off"

-- the aspect of a vehicle head
abbrev pub signal_word : SignalColor → List ℕ
signal_word signals.Green = codes " G"
signal_word signals.Yellow = codes " Y"
signal_word signals.Red = codes " R"

-- the aspect of a pedestrian head
abbrev pub pedestrian_word : PedestrianColor → List ℕ
pedestrian_word pedestrians.Walk = codes " W"
pedestrian_word pedestrians.Clearance = codes " C"
pedestrian_word pedestrians.DontWalk = codes " D"

-- the command that lights a lamp
abbrev pub lamp_line : Lamp → List ℕ
lamp_line (lamps.Phase p color) = codes "fault P" ++ (decimal p ++ signal_word color)
lamp_line (lamps.Overlap o color) = codes "fault O" ++ (decimal o ++ signal_word color)
lamp_line (lamps.Arrow o) = codes "fault O" ++ (decimal o ++ codes " P")
lamp_line (lamps.Pedestrian p color) = codes "fault W" ++ (decimal p ++ pedestrian_word color)

-- a space and a number
abbrev pub number_word : ℕ → List ℕ
number_word n = 32 ∷ decimal n

-- the command that is an input; a tick is none
abbrev pub input_line : Input → List ℕ
input_line (Tick row) = []
input_line (Pattern n) = codes "pattern " ++ decimal n
input_line (Switch n on) = codes "preempt " ++ (decimal n ++ switch_word on)
input_line (Fault None) = codes "fault none"
input_line (Fault (Some lamp)) = lamp_line lamp
input_line Reset = codes "reset"
input_line (Begin station) = codes "begin " ++ decimal station
input_line (Set station id v) = codes "set " ++ (decimal station ++ (32 ∷ (name_of id.object ++ (number_word id.index ++ number_word v))))
input_line (Verify station) = codes "verify " ++ decimal station
input_line (Commit station) = codes "commit " ++ decimal station
input_line (Abort station) = codes "abort " ++ decimal station
input_line (Omit list) = codes "omit " ++ decimal list
input_line (Clock time) = codes "clock " ++ (date_text (date_of time) ++ (32 ∷ time_text (time % DAY)))

-- ## Lines of commands

-- so many ticks; none need no line
abbrev pub step_text : ℕ → List ℕ
step_text n = if n == 0 then [] else with_feed (codes "step " ++ decimal n)

-- an input, on a line of its own
abbrev pub input_text : Input → List ℕ
input_text (Tick row) = []
input_text i = with_feed (input_line i)

-- ticks up to each of these inputs, and it; then ticks up to `now`. Tick t is in force before them.
abbrev pub commands_from : ℕ → List Other → ℕ → List ℕ
commands_from now [] t = step_text (now - t)
commands_from now (o ∷ os) t = step_text (o.tick - t) ++ (input_text o.input ++ commands_from now os o.tick)

-- the lines of all commands, where this tick is in force after them
abbrev pub commands_text : Keeping → ℕ → List ℕ
commands_text kept now = commands_from now kept.others 0

-- ## The line

-- the log and the commands as JSON
abbrev pub saved_json : Keeping → ℕ → Json
saved_json kept now = object (
    member (codes "log") (string (text_in (form_for kept.rows) kept.rows))
    (member (codes "commands") (string (commands_text kept now))
    no_members))

-- their line, without its end
unfoldable pub saved_text : Keeping → ℕ → List ℕ
saved_text kept now = print (json_tokens (saved_json kept now))
