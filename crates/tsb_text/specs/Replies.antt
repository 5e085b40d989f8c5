-- What a session says to a line, and what it has come to then.
use Rattle.std.specs.Prelude.{◌≡◌, ℕ, Bool, List, [], Result, Ok, Err, codes}
use Rattle.tsb_bench.specs.tsb_step.declared.inputs.Input.{Input}
use Rattle.tsb_command_text.specs.declared.command.Command.{Command}
use Rattle.tsb_command_text.specs.declared.command.Command.TheVariants.{Quit}
use Rattle.tsb_command_text.specs.declared.command.Reading.{Reading}
use Rattle.tsb_command_text.specs.declared.command.Reading.TheVariants.{Skip, Bad, Lines, Do}
use Rattle.tsb_command_text.specs.Readings.{reading}
use Rattle.tsb_dialog.specs.declared.answers.Flow.{Flow}
use Rattle.tsb_dialog.specs.declared.answers.Flow.TheVariants.{On, Over}
use Rattle.tsb_dialog.specs.declared.error.DialogError.{DialogError}
use Rattle.tsb_dialog.specs.declared.error.DialogError.TheVariants as dialogs
use Rattle.tsb_dialog.specs.Said.{with_feed}
use Rattle.tsb_text.specs.declared.error.SessionError.{SessionError}
use Rattle.tsb_text.specs.declared.error.SessionError.TheVariants as sessions
use Rattle.tsb_text.specs.Answers.{Setup, Answers}

-- what it was given, and the inputs that remain
pub record Stand : Type 0 where
  pub given : Setup
  pub inputs : List Input

-- whether it goes on after a command
abbrev pub flow_after : Command → Flow
flow_after Quit = Over
flow_after c = On

-- display lines are wide from now on, or not
abbrev pub laid : Bool → Setup → Setup
laid is_wide given = record given { is_wide = is_wide }

-- this is said to what a line asks, and it has then come to this
abbrev pub Replies : Stand → Reading → List ℕ → Flow → Stand → Type 0
Replies stand Skip text flow left = (text ≡ []) × (flow ≡ On) × (left ≡ stand)
Replies stand Bad text flow left = (text ≡ with_feed (codes "bad command")) × (flow ≡ On) × (left ≡ stand)
Replies stand (Lines is_wide) text flow left = (text ≡ with_feed (codes "ok")) × (flow ≡ On) × (left ≡ record stand { given = laid is_wide stand.given })
Replies stand (Do c) text flow left =
    Answers stand.given stand.inputs c text left.inputs × (flow ≡ flow_after c) × (left.given ≡ stand.given)

-- this is said to a line, whatever its number
abbrev pub says : Stand → ℕ → List ℕ → List ℕ → Flow → Stand → Type 0
says stand number line text flow left = Replies stand (reading line) text flow left

-- the fault of a session whose dialog ended with this one
abbrev pub fault_of : DialogError → SessionError
fault_of dialogs.Read = sessions.Read
fault_of dialogs.Write = sessions.Write
fault_of dialogs.TooLarge = sessions.TooLarge

-- how a session ends whose dialog ended so
abbrev pub as_session : Result (Unit {0}) DialogError → Result (Unit {0}) SessionError
as_session (Ok u) = Ok u
as_session (Err e) = Err (fault_of e)
