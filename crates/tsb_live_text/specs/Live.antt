-- What a live run has come to, and what it answers to each line.
use Rattle.std.specs.Prelude.{◌≡◌, ◌⊎◌, ℕ, List, [], ◌++◌, Bool, true, false, take, Option, Some, None, Result, Ok, Err, codes, option_map}
use Rattle.tsb_text.specs.kept.Changed.{last_change}
use Rattle.tsb_log_text.specs.RowInputs.{value_of}
use Rattle.tsb_text.specs.kept.Kept.{kept_of}
use Rattle.tsb_types.specs.Sets.{all_off}
use Rattle.tsb_types.specs.declared.refusal.Refusal.{Refusal}
use Rattle.tsb_types.specs.declared.refusal.Refusal.TheVariants.{Memory}
use Rattle.tsb_types.specs.declared.row.Row.{Row}
use Rattle.tsb_step.specs.declared.inputs.Input.{Input}
use Rattle.tsb_step.specs.tsb_plan.Plan.{Plan}
use Rattle.tsb_step.specs.Runs.{replay}
use Rattle.tsb_step.specs.State.{State}
use Rattle.tsb_step.specs.Status.{status}
use Rattle.tsb_command_text.specs.declared.command.Command.{Command}
use Rattle.tsb_command_text.specs.declared.command.Command.TheVariants.{Quit, Step}
use Rattle.tsb_dialog.specs.declared.answers.Flow.{Flow}
use Rattle.tsb_dialog.specs.Said.{with_feed}
use Rattle.tsb_command_text.specs.declared.live_command.LiveCommand.{LiveCommand}
use Rattle.tsb_command_text.specs.declared.live_command.LiveCommand.TheVariants as asks
use Rattle.tsb_command_text.specs.declared.live_command.LiveReading.{LiveReading}
use Rattle.tsb_command_text.specs.declared.live_command.LiveReading.TheVariants.{Skip, Bad, Tick, Ask}
use Rattle.tsb_command_text.specs.LiveReadings.{live_reading}
use Rattle.tsb_status_text.specs.EditsLine.{edits_text}
use Rattle.tsb_status_text.specs.PlanLine.{plan_text}
use Rattle.tsb_live_text.specs.declared.help.TheConstants.{HELP}
use Rattle.tsb_live_text.specs.GoTo.{command_to, tick_of}
use Rattle.tsb_live_text.specs.saved.Saved.{saved_text}
use Rattle.tsb_status_text.specs.StatusText.{status_text}
use Rattle.tsb_text.specs.Answers.{Setup, line_in, refused_line, when_line}
use Rattle.tsb_text.specs.declared.rows.Rows.TheVariants.{Held}
use Rattle.tsb_text.specs.Obeys as session
use Rattle.tsb_text.specs.Obeys.{Besides}
use Rattle.tsb_text.specs.Rows.{rows_in}
use Rattle.tsb_text.specs.Tasks.{task_of}
use Rattle.tsb_text.specs.Faults.{fault_words}
use Rattle.tsb_text.specs.declared.faults.LineFault.{LineFault}
use Rattle.tsb_text.specs.declared.faults.LineFault.TheVariants as faults
use Rattle.tsb_text.specs.declared.faults.OnFault.{OnFault}
use Rattle.tsb_text.specs.Stops.{Stopped, flow_after, stopped_at}
use Rattle.tsb_live_text.specs.Changes.{Changes}

-- the plan that the run began with, the inputs that remain, the newest first, and the row last given
pub record Live : Type 0 where
  pub plan : Plan
  pub inputs : List Input
  pub row : Row
  -- whether the schedule of the plan acts
  pub acts : Bool
  -- whether inputs tell their events, and whether answers that are no display lines stand after their command
  pub tells : Bool
  pub echoes : Bool
  -- whether display lines are wide
  pub is_wide : Bool
  -- what the run does after a line with which something is wrong, and the line that ended it
  pub on_fault : OnFault
  pub stopped : Option Stopped

-- at power-up; before the first row all inputs are off
abbrev pub begun : OnFault → Bool → Plan → Live
begun on_fault acts plan = record { plan = plan; acts = acts; inputs = []; row = all_off; tells = false; echoes = false; is_wide = false; on_fault = on_fault; stopped = None }

-- the state of the controller
abbrev pub present : Live → State
present s = replay s.plan s.inputs

-- a row was given
abbrev pub with_row : Row → Live → Live
with_row row s = record s { row = row }

-- other inputs remain
abbrev pub with_inputs : List Input → Live → Live
with_inputs is s = record s { inputs = is }

-- inputs tell their events from now on, or not
abbrev pub with_events : Bool → Live → Live
with_events on s = record s { tells = on }

-- answers stand after their command from now on, or not
abbrev pub with_echo : Bool → Live → Live
with_echo on s = record s { echoes = on }

-- display lines are wide from now on, or not
abbrev pub with_lines : Bool → Live → Live
with_lines is_wide s = record s { is_wide = is_wide }

-- a session in which each tick has the row last given
abbrev pub setup : Live → Setup
setup s = record { plan = s.plan; log = rows_in (Held s.row); acts = s.acts; is_wide = s.is_wide }

-- ## Answers

-- what stands before an answer that is no display line: of the command the first 200 bytes
abbrev pub echo_of : Bool → List ℕ → List ℕ
echo_of true line = codes "> " ++ with_feed (take 200 line)
echo_of false line = []

-- what is said besides the answers of a session to this line
abbrev pub besides : Live → List ℕ → Besides
besides s line = record { tells = s.tells; echo = echo_of s.echoes line }

-- what is fault with a line that is refused
abbrev pub fault_by : Option Refusal → Option LineFault
fault_by refusal = option_map faults.Refused refusal

-- an answer that may be that something was refused, and the inputs that remain then
abbrev pub Leaves : Live → (List ℕ → Option Refusal → List Input → Type 0) → List ℕ → Option LineFault → Live → Type 0
Leaves s IsAnswer text fault t = (refusal : Option Refusal) × (left : List Input) × IsAnswer text refusal left × (fault ≡ fault_by refusal) × (t ≡ with_inputs left s)

-- a command of `tsb run` is answered as in that session
abbrev pub Obeys : Live → List ℕ → Command → List ℕ → Option LineFault → Live → Type 0
Obeys s line c text fault t = Leaves s (session.Obeys (setup s) (besides s line) s.inputs (task_of c)) text fault t

-- ticks of which only the changes are told
abbrev pub TellsChanges : Live → List ℕ → ℕ → List ℕ → Option LineFault → Live → Type 0
TellsChanges s line n text fault t = Leaves s (Changes (setup s) (besides s line) s.row s.inputs (line_in s.is_wide (present s)) false n) text fault t

-- this is answered, and nothing else than this has become of it
abbrev pub Tells : Live → List ℕ → List ℕ → Option LineFault → List ℕ → Option LineFault → Live → Live → Type 0
Tells s line answer why text fault left t = (text ≡ echo_of s.echoes line ++ with_feed answer) × (fault ≡ why) × (t ≡ left)

-- the ticks that lead to a tick, or what is wrong with what asks for it
abbrev pub GoesTo : Live → List ℕ → Result ℕ LineFault → List ℕ → Option LineFault → Live → Type 0
GoesTo s line (Ok tick) text fault t = Obeys s line (command_to (present s).now tick) text fault t
GoesTo s line (Err why) text fault t = Tells s line (fault_words why) (Some why) text fault s t

-- the tick
abbrev pub TellsTick : Live → List ℕ → Result ℕ LineFault → List ℕ → Option LineFault → Live → Type 0
TellsTick s line (Ok tick) text fault t = Tells s line (when_line (Some tick)) None text fault s t
TellsTick s line (Err why) text fault t = Tells s line (fault_words why) (Some why) text fault s t

-- a command
abbrev pub AsksLive : Live → List ℕ → LiveCommand → List ℕ → Option LineFault → Live → Type 0
AsksLive s line (asks.Session c) text fault t = Obeys s line c text fault t
AsksLive s line asks.Status text fault t = Tells s line (status_text (status (present s))) None text fault s t
AsksLive s line (asks.Changes n) text fault t = TellsChanges s line n text fault t
AsksLive s line (asks.GoTo aim) text fault t = GoesTo s line (tick_of (present s).start_moment (present s).now aim) text fault t
AsksLive s line (asks.TickAt aim) text fault t = TellsTick s line (tick_of (present s).start_moment (present s).now aim) text fault t
-- where there is no memory for the line of the plan, that is told
AsksLive s line asks.Plan text fault t = Tells s line (plan_text (present s).plan) None text fault s t
    ⊎ Tells s line (refused_line Memory) (Some (faults.Refused Memory)) text fault s t
AsksLive s line asks.Edits text fault t = Tells s line (edits_text (present s).desk) None text fault s t
AsksLive s line (asks.Events on) text fault t = Tells s line (codes "ok") None text fault (with_events on s) t
AsksLive s line (asks.Echo on) text fault t = Tells s line (codes "ok") None text fault (with_echo on s) t
AsksLive s line (asks.Lines is_wide) text fault t = Tells s line (codes "ok") None text fault (with_lines is_wide s) t
AsksLive s line (asks.When which) text fault t = Tells s line (when_line (last_change (value_of which) s.plan s.inputs)) None text fault s t
AsksLive s line asks.Help text fault t = Tells s line HELP.now None text fault s t
AsksLive s line asks.Save text fault t = Tells s line (saved_text (kept_of s.plan s.inputs) (present s).now) None text fault s t

-- what is answered to what a line asks, and what is fault with it, if something is
abbrev pub Reads : Live → List ℕ → LiveReading → List ℕ → Option LineFault → Live → Type 0
Reads s line Skip text fault t = (text ≡ []) × (fault ≡ None) × (t ≡ s)
Reads s line Bad text fault t = Tells s line (codes "bad command") (Some faults.BadCommand) text fault s t
Reads s line (Tick row) text fault t = Obeys (with_row row s) line (Step 1) text fault t
Reads s line (Ask c) text fault t = AsksLive s line c text fault t

-- ## The end

-- it is noted
abbrev pub with_stop : Option Stopped → Live → Live
with_stop stopped s = record s { stopped = stopped }

-- a line that reads so is `quit`
abbrev pub quits : LiveReading → Bool
quits (Ask (asks.Session Quit)) = true
quits asked = false

-- what may be said to a line
pub record Says (s : Live) (number : ℕ) (line text : List ℕ) (flow : Flow) (t : Live) : Type 0 where
  pub fault : Option LineFault
  pub left : Live
  pub reads : Reads s line (live_reading line) text fault left
  pub stops : t ≡ with_stop (stopped_at s.on_fault number line fault) left
  pub goes : flow ≡ flow_after (quits (live_reading line)) (stopped_at s.on_fault number line fault)
