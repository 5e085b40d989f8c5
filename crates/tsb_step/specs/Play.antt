-- What a list of commands comes to: the inputs that remain, and which answer is right at its place. Inputs are piled
-- up, the newest first; the state is that of a replay of the inputs that remain. What each of these is, of any machine
-- with records, is in tsb_machine.
use Rattle.std.specs.Prelude.{ℕ, List}
use Rattle.tsb_machine.specs.tsb_history.History.{Change}
use Rattle.tsb_types.specs.declared.watch.Watch.{Watch}
use Rattle.tsb_objects.specs.tsb_plan.Plan.{Plan}
use Rattle.tsb_machine.specs.declared.commands.MachineCommand.{MachineCommand}
use Rattle.tsb_machine.specs.declared.commands.Answer.{Answer}
use Rattle.tsb_machine.specs.Machine as machine
use Rattle.tsb_machine.specs.Play as play
use Rattle.tsb_step.specs.declared.inputs.Input.{Input}
use Rattle.tsb_step.specs.State.{State, start}
use Rattle.tsb_step.specs.Past.{controller, Whole}
use Rattle.tsb_step.specs.Watches.{watched}

-- a command of a session
abbrev pub Cmd : Type 0
Cmd = MachineCommand Input Watch

-- the states of a run, newest first
abbrev pub run : Plan → List Input → List State
run plan is = machine.run controller (start plan) is

-- the record of each input, newest first
abbrev pub records_of : Plan → List Input → List Change
records_of plan is = machine.records_of controller (start plan) is

-- ## The inputs that remain

-- without the fewest of the newest inputs that make the tick number t; without all of them, where no state has it
abbrev pub back_to : Plan → ℕ → List Input → List Input
back_to plan t is = machine.back_to controller (start plan) t is

-- after a command with this answer, where `is` remained before
abbrev pub remaining_after : Plan → List Input → Cmd → Answer → List Input
remaining_after plan is c a = play.remaining_after controller (start plan) is c a

-- after commands with their answers in turn, where `is` remained before
abbrev pub remaining_from : Plan → List Input → List Cmd → List Answer → List Input
remaining_from plan is cs ans = play.remaining_from controller (start plan) is cs ans

-- the inputs that were not undone, of a session from power-up
abbrev pub remaining : Plan → List Cmd → List Answer → List Input
remaining plan cs ans = play.remaining controller (start plan) cs ans

-- ## Right answers

-- the answer is right where these inputs remain
abbrev pub IsRight : Plan → List Input → Cmd → Answer → Type 0
IsRight plan is c a = play.IsRight controller (start plan) watched is c a

-- as many answers as commands, each right at its place
abbrev pub AreRightFrom : Plan → List Input → List Cmd → List Answer → Type 0
AreRightFrom plan is cs ans = play.AreRightFrom controller (start plan) watched is cs ans

-- so from power-up, where no input remains before the first command
abbrev pub AreRight : Plan → List Cmd → List Answer → Type 0
AreRight plan cs ans = play.AreRight controller (start plan) watched cs ans

-- a bench has come from power-up by these inputs
abbrev pub Follows : Plan → Whole → List Input → Type 0
Follows plan w is = play.Follows controller (start plan) w is
