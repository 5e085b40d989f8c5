-- What a session answers to a command, over the inputs that were not undone. Where the schedule of the plan acts, inputs
-- follow each one by which another action comes into force: a pattern, and the arrows that are omitted where others are.
-- They are inputs as if an operator had given them.
use Rattle.std.specs.Prelude.{◌≡◌, ◌⊎◌, ℕ, zero, suc, ◌+◌, Bool, if◌then◌else◌, List, [], ◌∷◌, ◌++◌, Option, Some, None, option_map, codes}
use Rattle.tsb_bench.specs.tsb_history.declared.kinds.Kind.{Kind}
use Rattle.tsb_bench.specs.tsb_history.declared.kinds.Kind.TheVariants as kinds
use Rattle.tsb_objects.specs.tsb_types.declared.refusal.Refusal.{Refusal}
use Rattle.tsb_objects.specs.tsb_types.declared.refusal.Refusal.TheVariants as refusals
use Rattle.tsb_objects.specs.tsb_types.declared.stage.Stage.{Stage}
use Rattle.tsb_objects.specs.tsb_rules.declared.rules.Rule.{Rule}
use Rattle.tsb_objects.specs.tsb_plan.Plan.{Plan}
use Rattle.tsb_plan_text.specs.RuleLines.{rule_line}
use Rattle.tsb_bench.specs.tsb_machine.declared.commands.MachineCommand.TheVariants as asks
use Rattle.tsb_bench.specs.tsb_machine.declared.commands.Answer.{Answer}
use Rattle.tsb_bench.specs.tsb_machine.declared.commands.Answer.TheVariants.{Took, Refused, Undone, Moved, Nothing, Changed}
use Rattle.tsb_bench.specs.tsb_step.declared.inputs.Input.{Input}
use Rattle.tsb_bench.specs.tsb_step.declared.inputs.Input.TheVariants as inputs
use Rattle.tsb_bench.specs.tsb_step.Play.{Cmd, IsRight, remaining_after}
use Rattle.tsb_bench.specs.tsb_step.Following.{followers as all_followers}
use Rattle.tsb_bench.specs.tsb_step.Runs.{replay}
use Rattle.tsb_bench.specs.tsb_step.Signs.{display, local, stage}
use Rattle.tsb_bench.specs.tsb_step.State.{State}
use Rattle.tsb_display_text.specs.Line.{line_of, tick_field}
use Rattle.tsb_display_text.specs.Line as shown
use Rattle.tsb_command_text.specs.declared.command.Command.{Command}
use Rattle.tsb_command_text.specs.declared.command.Command.TheVariants.{Step, Back, Seek, Undo, Show, Quit, When, Begin, Set, Verify, Commit, Abort, Pattern, Preempt, Fault, Reset, Clock, Omit}
use Rattle.tsb_log_text.specs.declared.log.LogRow.{LogRow}
use Rattle.tsb_log_text.specs.Logs.{row_at}
use Rattle.tsb_dialog.specs.Said.{with_feed}

-- what a session is given: the plan, the rows of the log, and whether the schedule of the plan acts; and whether its display
-- lines are wide, as lines before say
pub record Setup : Type 0 where
  pub plan : Plan
  pub log : List LogRow
  pub acts : Bool
  pub is_wide : Bool

-- ## Lines, without their ends

-- the preempt in service, where one is
abbrev pub preempt_in_service : State → Option ℕ
preempt_in_service s = option_map (λ (service : ℕ × Stage). service.0) (stage s)

-- the display line of a state
abbrev pub display_line : State → List ℕ
display_line s = line_of s.now (display s) (preempt_in_service s) (local s)

-- it, or the wide one
abbrev pub line_in : Bool → State → List ℕ
line_in is_wide s = shown.line_in is_wide s.now (display s) (preempt_in_service s) (local s)

-- what `undone` calls an input of a kind
abbrev pub kind_name : Kind → List ℕ
kind_name kinds.Tick = codes "tick"
kind_name kinds.Pattern = codes "pattern"
kind_name kinds.Switch = codes "switch"
kind_name kinds.Fault = codes "fault"
kind_name kinds.Reset = codes "reset"
kind_name kinds.Begin = codes "begin"
kind_name kinds.Set = codes "set"
kind_name kinds.Verify = codes "verify"
kind_name kinds.Commit = codes "commit"
kind_name kinds.Abort = codes "abort"
kind_name kinds.Clock = codes "clock"
kind_name kinds.Omit = codes "omit"

-- it names the station that owns the desk
abbrev pub busy_line : ℕ → List ℕ
busy_line station = codes "refused E4 Busy " ++ (48 + station) ∷ []

-- the number of the refusal, E1 to E12, and its name
abbrev pub refused_line : Refusal → List ℕ
refused_line refusals.Memory = codes "refused E1 Memory"
refused_line refusals.NoSuchObject = codes "refused E2 NoSuchObject"
refused_line refusals.OutOfRange = codes "refused E3 OutOfRange"
refused_line (refusals.Busy station) = busy_line station
refused_line refusals.NotOwner = codes "refused E5 NotOwner"
refused_line refusals.NotOpen = codes "refused E6 NotOpen"
refused_line refusals.NotVerified = codes "refused E7 NotVerified"
refused_line refusals.TooManyEdits = codes "refused E8 TooManyEdits"
refused_line refusals.NoSuchPattern = codes "refused E9 NoSuchPattern"
refused_line refusals.NoSuchPreempt = codes "refused E10 NoSuchPreempt"
refused_line refusals.TickLimit = codes "refused E11 TickLimit"
refused_line refusals.InService = codes "refused E12 InService"

-- it names the kind of the input that was taken back
abbrev pub undone_line : Kind → List ℕ
undone_line k = codes "undone " ++ kind_name k

-- what a check at the desk found: nothing, or the first rule that the plan with the edits breaks
abbrev pub verified_line : Option Rule → List ℕ
verified_line None = codes "ok"
verified_line (Some rule) = rule_line rule

-- what tells that the bench took an input: of a check what the desk keeps of it
abbrev pub taken_line : Cmd → State → List ℕ
taken_line (asks.Apply (inputs.Verify station)) s = verified_line s.desk.rule
taken_line cmd s = codes "ok"

-- the tick number of the last change
abbrev pub when_line : Option ℕ → List ℕ
when_line None = codes "never"
when_line (Some tick) = codes "tick " ++ tick_field tick

-- what tells the answer to what the bench was asked, which is then in this state
abbrev pub told : Bool → Cmd → Answer → State → List ℕ
told is_wide cmd Took s = taken_line cmd s
told is_wide cmd (Refused e) s = refused_line e
told is_wide cmd (Undone k) s = undone_line k
told is_wide cmd Moved s = line_in is_wide s
told is_wide cmd Nothing s = codes "nothing"
told is_wide cmd (Changed tick) s = when_line tick

-- ## Commands
-- Inputs are piled up, the newest first, and the state is that of their replay.

-- what follows this input, which was taken, in order
abbrev pub followers : Setup → List Input → Input → List Input
followers given is i = if given.acts then all_followers (replay given.plan is) (replay given.plan (i ∷ is)) else []

-- what follows what was asked and answered so
abbrev pub followers_of : Setup → List Input → Cmd → Answer → List Input
followers_of given is (asks.Apply i) Took = followers given is i
followers_of given is cmd a = []

-- an input that follows is refused for a right reason, and leaves all as it was
pub record Fails (given : Setup) (is : List Input) (i : Input) (stop : Option Refusal) (new : List Input) : Type 0 where
  pub why : Refusal
  pub right : IsRight given.plan is (asks.Apply i) (Refused why)
  pub refused : stop ≡ Some why
  pub left : new ≡ is

-- what follows is taken, one after another, and leaves these inputs; or one is refused for this reason, and no more is
-- taken
abbrev pub Leads : Setup → List Input → List Input → Option Refusal → List Input → Type 0
Leads given is [] stop new = (stop ≡ None) × (new ≡ is)
Leads given is (i ∷ next) stop new =
    (IsRight given.plan is (asks.Apply i) Took × Leads given (i ∷ is) next stop new) ⊎ Fails given is i stop new

-- what is said behind an answer where what follows was refused, and before that
abbrev pub refused_after : List ℕ → Option Refusal → List ℕ
refused_after echo None = []
refused_after echo (Some e) = echo ++ with_feed (refused_line e)

-- what goes on where nothing was refused, and else what ends
abbrev pub GoesUnless : Option Refusal → Type 0 → Type 0 → Type 0
GoesUnless None Rest Ending = Rest
GoesUnless (Some e) Rest Ending = Ending

-- a command that asks the bench once: it is answered by what tells a right answer, and what follows is taken
pub record Asked (given : Setup) (is : List Input) (cmd : Cmd) (text : List ℕ) (new : List Input) : Type 0 where
  pub answer : Answer
  pub right : IsRight given.plan is cmd answer
  pub stop : Option Refusal
  pub left : Leads given (remaining_after given.plan is cmd answer) (followers_of given is cmd answer) stop new
  pub line : text ≡ with_feed (told given.is_wide cmd answer (replay given.plan (remaining_after given.plan is cmd answer))) ++ refused_after [] stop

-- the next tick, with the log's row
abbrev pub next_tick : Setup → List Input → Input
next_tick given is = inputs.Tick (row_at given.log ((replay given.plan is).now + 1))

-- the tick is taken, and what follows it, which leaves these inputs; the display line after the tick, a refusal of what
-- follows, and then this
pub record Ticked (given : Setup) (is : List Input) (text rest : List ℕ) (stop : Option Refusal) (left : List Input) : Type 0 where
  pub right : IsRight given.plan is (asks.Apply (next_tick given is)) Took
  pub leads : Leads given (next_tick given is ∷ is) (followers given is (next_tick given is)) stop left
  pub line : text ≡ with_feed (line_in given.is_wide (replay given.plan (next_tick given is ∷ is))) ++ (refused_after [] stop ++ rest)

-- the tick is refused, and leaves all as it was. Out of memory the bench may refuse any tick.
pub record Stopped (given : Setup) (is : List Input) (text : List ℕ) (new : List Input) : Type 0 where
  pub refusal : Refusal
  pub right : IsRight given.plan is (asks.Apply (next_tick given is)) (Refused refusal)
  pub line : text ≡ with_feed (refused_line refusal)
  pub left : new ≡ is

-- so many ticks, up to one that is refused
abbrev pub Steps : Setup → List Input → ℕ → List ℕ → List Input → Type 0
Steps given is zero text new = (text ≡ []) × (new ≡ is)
Steps given is (suc n) text new =
    ((rest : List ℕ) × (stop : Option Refusal) × (left : List Input) × Ticked given is text rest stop left
    × GoesUnless stop (Steps given left n rest new) ((rest ≡ []) × (new ≡ left)))
    ⊎ Stopped given is text new

-- the answer to a command where these inputs remain, and the inputs that remain then
abbrev pub Answers : Setup → List Input → Command → List ℕ → List Input → Type 0
Answers given is (Step n) text new = Steps given is n text new
Answers given is Show text new = (text ≡ with_feed (line_in given.is_wide (replay given.plan is))) × (new ≡ is)
-- it has no answer
Answers given is Quit text new = (text ≡ []) × (new ≡ is)
-- the way back
Answers given is (Back n) text new = Asked given is (asks.Back n) text new
Answers given is (Seek t) text new = Asked given is (asks.Seek t) text new
Answers given is Undo text new = Asked given is asks.Undo text new
Answers given is (When watch) text new = Asked given is (asks.When watch) text new
-- inputs
Answers given is (Begin station) text new = Asked given is (asks.Apply (inputs.Begin station)) text new
Answers given is (Set station id value) text new = Asked given is (asks.Apply (inputs.Set station id value)) text new
Answers given is (Verify station) text new = Asked given is (asks.Apply (inputs.Verify station)) text new
Answers given is (Commit station) text new = Asked given is (asks.Apply (inputs.Commit station)) text new
Answers given is (Abort station) text new = Asked given is (asks.Apply (inputs.Abort station)) text new
Answers given is (Pattern number) text new = Asked given is (asks.Apply (inputs.Pattern number)) text new
Answers given is (Preempt number on) text new = Asked given is (asks.Apply (inputs.Switch number on)) text new
Answers given is (Fault lamp) text new = Asked given is (asks.Apply (inputs.Fault lamp)) text new
Answers given is Reset text new = Asked given is (asks.Apply inputs.Reset) text new
Answers given is (Clock time) text new = Asked given is (asks.Apply (inputs.Clock time)) text new
Answers given is (Omit list) text new = Asked given is (asks.Apply (inputs.Omit list)) text new
