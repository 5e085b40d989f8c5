-- What holds of all events and of all records. Each law here is the contract of a function in src/recording/laws.rt, and proved
-- there.
use Rattle.std.specs.Prelude.{◌≡◌, ◌+◌, ℕ, suc, false, List, [], ◌∷◌, ◌++◌, length, take, Option, Some, None}
use Rattle.std.specs.List.{All}
use Rattle.tsb_bench.specs.tsb_machine.declared.commands.Answer.{Answer}
use Rattle.tsb_step.specs.declared.inputs.Input.{Input}
use Rattle.tsb_step.specs.declared.log_form.Noted.{Noted}
use Rattle.tsb_step.specs.Events.{events_of}
use Rattle.tsb_step.specs.Play.{AreRight, Cmd, remaining}
use Rattle.tsb_step.specs.State.{State}
use Rattle.tsb_step.specs.Step.{step}
use Rattle.tsb_command_text.specs.declared.command.Command.TheVariants.{Clock}
use Rattle.tsb_command_text.specs.declared.command.Reading.TheVariants.{Do}
use Rattle.tsb_command_text.specs.Readings.{reading}
use Rattle.tsb_text.specs.Answers.{Setup}
use Rattle.tsb_text.specs.declared.faults.OnFault.{OnFault}
use Rattle.tsb_text.specs.declared.faults.OnFault.TheVariants.{GoOn, Stop}
use Rattle.tsb_text.specs.Stops.{Stopped}
use Rattle.tsb_text.specs.recording.Faults.{fault_line}
use Rattle.tsb_text.specs.recording.Leaves.{BeginsWith, Come, Does, End, quits}

-- an event has the number of the tick in force after its input
abbrev pub EventsHaveTheirTick : Type 0
EventsHaveTheirTick = (noted : Noted) (s : State) (i : Input) → All (λ e. e.tick ≡ (step s i).now) (events_of noted s i)

-- what lines leave are the inputs that remain of some commands with right answers, that of a clock among them
abbrev pub LinesLeaveWhatRemains : Type 0
LinesLeaveWhatRemains = (on_fault : OnFault) (given : Setup) (clock : Option ℕ) (first : List Input) (end : End) (lines : List (List ℕ)) (told : List ℕ)
    → BeginsWith given clock first → Come on_fault given end 1 first lines told
    → (cs : List Cmd) × (ans : List Answer) × AreRight given.plan cs ans × (end.inputs ≡ remaining given.plan cs ans)

-- a record has no clock, unless one is asked for; and one that has is as one without whose first line sets it, but that each
-- line has the number before its own
abbrev pub ClocksAreFirstLines : Type 0
ClocksAreFirstLines = (on_fault : OnFault) (given : Setup) (m : ℕ) (first : List Input) (end : End) (n : ℕ) (line : List ℕ) (lines : List (List ℕ)) (told : List ℕ)
    → reading line ≡ Do (Clock m) → BeginsWith given (Some m) first → Come on_fault given end (suc n) first lines told → Come on_fault given end n [] (line ∷ lines) told

-- ## Strict records

-- nothing is wrong with these lines, none is `quit`, and these inputs remain after them
abbrev pub GoWell : Setup → List Input → List (List ℕ) → List Input → Type 0
GoWell given is [] now = now ≡ is
GoWell given is (line ∷ lines) now = (new : List Input) × Does given is (reading line) None new × (quits (reading line) ≡ false) × GoWell given new lines now

-- of these lines, the first of which has number n, this one ended the record: it is the first with which something is
-- wrong, what was told is its text alone, and these inputs remain
pub record StoppedAt (given : Setup) (n : ℕ) (is : List Input) (lines : List (List ℕ)) (told : List ℕ) (left : List Input) (stop : Stopped) : Type 0 where
  pub before : List (List ℕ)
  pub line : List ℕ
  pub after : List (List ℕ)
  pub all : lines ≡ before ++ line ∷ after
  pub number : stop.number ≡ length before + n
  pub now : List Input
  pub well : GoWell given is before now
  pub front : stop.line ≡ take 200 line
  pub faulty : Does given now (reading line) (Some stop.fault) left
  pub alone : told ≡ fault_line stop.number line stop.fault

-- where a line ended a strict record it is the first with which something is wrong; and else nothing was told
abbrev pub StoppedSo : Setup → ℕ → List Input → List (List ℕ) → List ℕ → List Input → Option Stopped → Type 0
StoppedSo given n is lines told left None = told ≡ []
StoppedSo given n is lines told left (Some stop) = StoppedAt given n is lines told left stop

-- a strict record ends with the first line with which something is wrong
abbrev pub StrictRecordsStopAtTheFirst : Type 0
StrictRecordsStopAtTheFirst = (given : Setup) (first : List Input) (end : End) (lines : List (List ℕ)) (told : List ℕ)
    → Come Stop given end 1 first lines told → StoppedSo given 1 first lines told end.inputs end.stop

-- no such line ends a record that goes on
abbrev pub NoLineStopsOthers : Type 0
NoLineStopsOthers = (given : Setup) (first : List Input) (end : End) (lines : List (List ℕ)) (told : List ℕ)
    → Come GoOn given end 1 first lines told → end.stop ≡ None
