-- What commands leave over a log, where nothing is refused and no schedule acts: they are carried out as `tsb run` does.
use Rattle.std.specs.Prelude.{◌≡◌, ℕ, zero, suc, ◌+◌, List, [], ◌∷◌, None}
use Rattle.tsb_text.specs.tsb_step.tsb_plan.Plan.{Plan}
use Rattle.tsb_step.specs.declared.inputs.Input.{Input}
use Rattle.tsb_step.specs.declared.inputs.Input.TheVariants as inputs
use Rattle.tsb_step.specs.Runs.{AreTaken, replay}
use Rattle.tsb_step.specs.Step.{verdict}
use Rattle.tsb_command_text.specs.declared.command.Command.{Command}
use Rattle.tsb_command_text.specs.declared.command.Command.TheVariants.{Step, Begin, Set, Verify, Commit, Abort, Pattern, Preempt, Fault, Reset, Clock, Omit}
use Rattle.tsb_log_text.specs.Logs.{row_at}
use Rattle.tsb_log_text.specs.declared.log.LogRow.{LogRow}
use Rattle.tsb_text.specs.kept.Kept.{kept_of}
use Rattle.tsb_live_text.specs.saved.Laws.{commands_at}

-- an input is taken
abbrev pub TakesInput : Plan → Input → List Input → List Input → Type 0
TakesInput plan i is left = (verdict (replay plan is) i ≡ None) × (left ≡ i ∷ is)

-- the next tick, with the row of the log that is in force at it
abbrev pub tick_after : Plan → List LogRow → List Input → Input
tick_after plan log is = inputs.Tick (row_at log ((replay plan is).now + 1))

-- so many ticks are taken
abbrev pub TakesTicks : Plan → List LogRow → ℕ → List Input → List Input → Type 0
TakesTicks plan log zero is left = left ≡ is
TakesTicks plan log (suc n) is left = (verdict (replay plan is) (tick_after plan log is) ≡ None) × TakesTicks plan log n (tick_after plan log is ∷ is) left

-- a command that is an input, or ticks, is carried out and not refused
abbrev pub Takes : Plan → List LogRow → Command → List Input → List Input → Type 0
Takes plan log (Step n) is left = TakesTicks plan log n is left
Takes plan log (Begin station) is left = TakesInput plan (inputs.Begin station) is left
Takes plan log (Set station id v) is left = TakesInput plan (inputs.Set station id v) is left
Takes plan log (Verify station) is left = TakesInput plan (inputs.Verify station) is left
Takes plan log (Commit station) is left = TakesInput plan (inputs.Commit station) is left
Takes plan log (Abort station) is left = TakesInput plan (inputs.Abort station) is left
Takes plan log (Pattern n) is left = TakesInput plan (inputs.Pattern n) is left
Takes plan log (Preempt n on) is left = TakesInput plan (inputs.Switch n on) is left
Takes plan log (Fault lamp) is left = TakesInput plan (inputs.Fault lamp) is left
Takes plan log Reset is left = TakesInput plan inputs.Reset is left
Takes plan log (Omit list) is left = TakesInput plan (inputs.Omit list) is left
Takes plan log (Clock time) is left = TakesInput plan (inputs.Clock time) is left
Takes plan log c is left = ⊥

-- these commands are, in turn
abbrev pub TakeAll : Plan → List LogRow → List Command → List Input → List Input → Type 0
TakeAll plan log [] is left = left ≡ is
TakeAll plan log (c ∷ cs) is left = (mid : List Input) × Takes plan log c is mid × TakeAll plan log cs mid left

-- the commands that are saved of inputs which were taken
abbrev pub saved_commands : Plan → List Input → List Command
saved_commands plan is = commands_at (replay plan is).now (kept_of plan is).others 0

-- over the log that is saved, from power-up, they leave these inputs, and no others
abbrev pub RunsEndAlike : Type 0
RunsEndAlike = (plan : Plan) (is : List Input) → AreTaken plan is
    → TakeAll plan (kept_of plan is).rows (saved_commands plan is) [] is
    × ((left : List Input) → TakeAll plan (kept_of plan is).rows (saved_commands plan is) [] left → left ≡ is)
