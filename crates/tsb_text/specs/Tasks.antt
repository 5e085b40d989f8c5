-- What a command asks: ticks, the display, the end, or what the bench is asked once.
use Rattle.tsb_bench.specs.tsb_machine.declared.commands.MachineCommand.TheVariants as asks
use Rattle.tsb_bench.specs.tsb_step.Play.{Cmd}
use Rattle.tsb_bench.specs.tsb_step.declared.inputs.Input.TheVariants as inputs
use Rattle.tsb_command_text.specs.declared.command.Command.{Command}
use Rattle.tsb_command_text.specs.declared.command.Command.TheVariants.{Step, Back, Seek, Undo, Show, Quit, When, Begin, Set, Verify, Commit, Abort, Pattern, Preempt, Fault, Reset, Clock, Omit}
use Rattle.tsb_text.specs.kept.Kept.{IsNoTick}
use Rattle.tsb_text.specs.declared.task.Task.{Task}
use Rattle.tsb_text.specs.declared.task.Task.TheVariants as tasks

-- what this command asks
abbrev pub task_of : Command → Task
task_of (Step n) = tasks.Ticks n
task_of Show = tasks.Show
task_of Quit = tasks.Quit
-- the way back
task_of (Back n) = tasks.Ask (asks.Back n)
task_of (Seek t) = tasks.Ask (asks.Seek t)
task_of Undo = tasks.Ask asks.Undo
task_of (When watch) = tasks.Ask (asks.When watch)
-- inputs
task_of (Begin station) = tasks.Ask (asks.Apply (inputs.Begin station))
task_of (Set station id value) = tasks.Ask (asks.Apply (inputs.Set station id value))
task_of (Verify station) = tasks.Ask (asks.Apply (inputs.Verify station))
task_of (Commit station) = tasks.Ask (asks.Apply (inputs.Commit station))
task_of (Abort station) = tasks.Ask (asks.Apply (inputs.Abort station))
task_of (Pattern number) = tasks.Ask (asks.Apply (inputs.Pattern number))
task_of (Preempt number on) = tasks.Ask (asks.Apply (inputs.Switch number on))
task_of (Fault lamp) = tasks.Ask (asks.Apply (inputs.Fault lamp))
task_of Reset = tasks.Ask (asks.Apply inputs.Reset)
task_of (Clock time) = tasks.Ask (asks.Apply (inputs.Clock time))
task_of (Omit list) = tasks.Ask (asks.Apply (inputs.Omit list))

-- the bench is asked to take no tick
abbrev pub AppliesNoTick : Cmd → Type 0
AppliesNoTick (asks.Apply i) = IsNoTick i
AppliesNoTick cmd = Unit {0}

-- ticks are asked as ticks alone
abbrev pub AsksNoTick : Task → Type 0
AsksNoTick (tasks.Ask cmd) = AppliesNoTick cmd
AsksNoTick task = Unit {0}
