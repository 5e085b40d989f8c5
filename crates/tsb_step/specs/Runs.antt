-- Runs of the controller: inputs are piled up, the newest first.
use Rattle.std.specs.Prelude.{List}
use Rattle.tsb_objects.specs.tsb_plan.Plan.{Plan}
use Rattle.tsb_machine.specs.Machine as machine
use Rattle.tsb_step.specs.declared.inputs.Input.{Input}
use Rattle.tsb_step.specs.State.{State, start}
use Rattle.tsb_step.specs.Past.{controller}

-- the state after a list of inputs, the newest first, from power-up with a plan
abbrev pub replay : Plan → List Input → State
replay plan is = machine.replay controller (start plan) is

-- each input of the list was taken: there was no verdict against it where it came
abbrev pub AreTaken : Plan → List Input → Type 0
AreTaken plan is = machine.AreTaken controller (start plan) is
