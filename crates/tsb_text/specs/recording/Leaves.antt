-- Which inputs remain after the commands of a session, and what is told of those that were refused. Inputs are piled up,
-- the newest first, and the state is that of their replay.
use Rattle.std.specs.Prelude.{◌≡◌, ℕ, suc, Bool, true, false, List, [], ◌∷◌, ◌++◌, Option, Some, None, option_map}
use Rattle.tsb_types.specs.declared.refusal.Refusal.{Refusal}
use Rattle.tsb_step.specs.declared.inputs.Input.{Input}
use Rattle.tsb_step.specs.declared.inputs.Input.TheVariants.{Clock}
use Rattle.tsb_command_text.specs.declared.command.Command.{Command}
use Rattle.tsb_command_text.specs.declared.command.Command.TheVariants.{Quit}
use Rattle.tsb_command_text.specs.declared.command.Reading.{Reading}
use Rattle.tsb_command_text.specs.declared.command.Reading.TheVariants.{Skip, Bad, Lines, Do}
use Rattle.tsb_command_text.specs.Readings.{reading}
use Rattle.tsb_dialog.specs.declared.answers.Flow.{Flow}
use Rattle.tsb_dialog.specs.declared.answers.Flow.TheVariants.{On, Over}
use Rattle.tsb_text.specs.Answers.{Leads, Setup, followers}
use Rattle.tsb_text.specs.Obeys.{Obeys, nothing_besides}
use Rattle.tsb_text.specs.Tasks.{task_of}
use Rattle.tsb_text.specs.declared.task.Task.{Task}
use Rattle.tsb_text.specs.declared.faults.OnFault.{OnFault}
use Rattle.tsb_text.specs.declared.faults.LineFault.{LineFault}
use Rattle.tsb_text.specs.declared.faults.LineFault.TheVariants as faults
use Rattle.tsb_text.specs.Stops.{Stopped, flow_after, stopped_at}
use Rattle.tsb_text.specs.recording.Faults.{fault_text}

-- ## Before the first line

-- a record begins with these inputs: that of its clock and what follows it, or none where it has no clock
abbrev pub BeginsWith : Setup → Option ℕ → List Input → Type 0
BeginsWith given None first = first ≡ []
BeginsWith given (Some m) first = Leads given (Clock m ∷ []) (followers given [] (Clock m)) None first

-- ## Commands

-- what a task leaves, and why it was refused: as in a session, where its answer is said
abbrev pub LeavesOf : Setup → List Input → Task → Option Refusal → List Input → Type 0
LeavesOf given is task refusal new = (text : List ℕ) × Obeys given nothing_besides is task text refusal new

-- what a command leaves
abbrev pub Leaves : Setup → List Input → Command → Option Refusal → List Input → Type 0
Leaves given is c refusal new = LeavesOf given is (task_of c) refusal new

-- ## Lines

-- what a line does that reads so: what is wrong with it, if anything, and which inputs remain
abbrev pub Does : Setup → List Input → Reading → Option LineFault → List Input → Type 0
Does given is Skip fault new = (fault ≡ None) × (new ≡ is)
Does given is Bad fault new = (fault ≡ Some faults.BadCommand) × (new ≡ is)
Does given is (Lines is_wide) fault new = (fault ≡ None) × (new ≡ is)
Does given is (Do c) fault new = (refusal : Option Refusal) × Leaves given is c refusal new × (fault ≡ option_map faults.Refused refusal)

-- a line that reads so is `quit`
abbrev pub quits : Reading → Bool
quits (Do Quit) = true
quits r = false

-- what a record comes to: the inputs that remain, and the line that ended it, where one did
pub record End : Type 0 where
  pub inputs : List Input
  pub stop : Option Stopped

-- a record that ends here comes to this, and nothing more is told
abbrev pub Ends : End → List Input → Option Stopped → List ℕ → Type 0
Ends end is stop told = (told ≡ []) × (end ≡ record { inputs = is; stop = stop })

-- what follows a line: the rest, or the end
abbrev pub Follows : Flow → Type 0 → Type 0 → Type 0
Follows On Rest Ending = Rest
Follows Over Rest Ending = Ending

-- what these lines come to, the first of them with this number, where `is` remain before them: how the record ends, and
-- what is told
abbrev pub Come : OnFault → Setup → End → ℕ → List Input → List (List ℕ) → List ℕ → Type 0
Come on_fault given end number is [] told = Ends end is None told
Come on_fault given end number is (line ∷ lines) told =
    (fault : Option LineFault) × (new : List Input) × (rest : List ℕ) × Does given is (reading line) fault new × (told ≡ fault_text number line fault ++ rest)
    × Follows (flow_after (quits (reading line)) (stopped_at on_fault number line fault))
    (Come on_fault given end (suc number) new lines rest)
    (Ends end new (stopped_at on_fault number line fault) rest)
