-- What holds of all live runs. Each law here is the contract of a function in src/laws.rt, and proved there.
use Rattle.std.specs.Prelude.{◌≡◌, ◌+◌, ℕ, suc, Bool, false, List, [], ◌∷◌, ◌++◌, length, Option}
use Rattle.tsb_command_text.specs.declared.command.Command.{Command}
use Rattle.tsb_command_text.specs.declared.command.Command.TheVariants.{Step}
use Rattle.tsb_dialog.specs.Heard.{Runs, asked}
use Rattle.tsb_dialog.specs.declared.answers.Flow.{Flow}
use Rattle.tsb_dialog.specs.declared.answers.Flow.TheVariants.{On}
use Rattle.tsb_command_text.specs.Readings.{reading}
use Rattle.tsb_command_text.specs.declared.command.Reading.{Reading}
use Rattle.tsb_command_text.specs.declared.command.Reading.TheVariants as session
use Rattle.tsb_command_text.specs.LiveReadings.{live_reading}
use Rattle.tsb_command_text.specs.declared.live_command.LiveReading.{LiveReading}
use Rattle.tsb_command_text.specs.declared.live_command.LiveCommand.TheVariants.{Lines, Session}
use Rattle.tsb_text.specs.Replies.{Stand, laid, says}
use Rattle.tsb_text.specs.declared.faults.OnFault.TheVariants.{GoOn}
use Rattle.tsb_command_text.specs.declared.live_command.LiveReading.TheVariants.{Skip, Bad, Tick, Ask}
use Rattle.tsb_log_text.specs.Logs.{row_at}
use Rattle.tsb_step.specs.declared.inputs.Input.{Input}
use Rattle.tsb_step.specs.tsb_plan.Plan.{Plan}
use Rattle.tsb_step.specs.Runs.{AreTaken}
use Rattle.tsb_text.specs.Answers.{Answers, Setup}
use Rattle.tsb_text.specs.declared.faults.LineFault.{LineFault}
use Rattle.tsb_text.specs.declared.faults.OnFault.{OnFault}
use Rattle.tsb_types.specs.declared.row.Row.{Row}
use Rattle.tsb_live_text.specs.Live.{Live, Obeys, Reads, Says, begun, present, setup}

-- the inputs of a live run were all taken, each in its place, on this plan
pub record AreOf (plan : Plan) (s : Live) : Type 0 where
  pub taken : AreTaken plan s.inputs
  pub same : s.plan ≡ plan

-- whatever lines came, and however much of each was kept, all inputs that a live run holds were taken
abbrev pub LinesLeaveWhatWasTaken : Type 0
LinesLeaveWhatWasTaken = (most : ℕ) (on_fault : OnFault) (acts : Bool) (plan : Plan) (lines : List (List ℕ)) (text : List ℕ) (now : Live) →
    Runs most Says (begun on_fault acts plan) lines text now → AreOf plan now

-- also after the line that ends it
abbrev pub LastLinesLeaveWhatWasTaken : Type 0
LastLinesLeaveWhatWasTaken = (most number : ℕ) (on_fault : OnFault) (acts : Bool) (plan : Plan) (lines : List (List ℕ)) (last before answer : List ℕ) (flow : Flow) (now end : Live) →
    Runs most Says (begun on_fault acts plan) lines before now → Says now number last answer flow end → AreOf plan end

-- where nothing is said besides, a command of `tsb run` is answered as in a session in which each tick has the row last
-- given
abbrev pub CommandsAreAnsweredAsThere : Type 0
CommandsAreAnsweredAsThere = (s t : Live) (line text : List ℕ) (c : Command) (fault : Option LineFault) → s.tells ≡ false → s.echoes ≡ false →
    Obeys s line c text fault t → Answers (setup s) s.inputs c text t.inputs

-- and a row, where a log has it at the next tick, as `step 1` of a session on that log, where the schedule acts in both or in
-- neither, and display lines are wide in both or in neither
abbrev pub RowsAreAnsweredAsThere : Type 0
RowsAreAnsweredAsThere = (given : Setup) (s t : Live) (line text : List ℕ) (row : Row) (fault : Option LineFault) → s.tells ≡ false → s.echoes ≡ false →
    given.plan ≡ s.plan → given.acts ≡ s.acts → given.is_wide ≡ s.is_wide → row ≡ row_at given.log ((present s).now + 1) → Reads s line (Tick row) text fault t → Answers given s.inputs (Step 1) text t.inputs

-- ## Whole runs
-- A live run and a session on a log, line by line.

-- no tick is taken but by rows
abbrev pub TakesNoTick : Command → Type 0
TakesNoTick (Step n) = ⊥
TakesNoTick c = Unit {0}

-- a row that the log has at the next tick is there one step; any other line asks the same as there
abbrev pub AsksAsThere : Setup → Live → LiveReading → Reading → Type 0
AsksAsThere given s (Tick row) there = (row ≡ row_at given.log ((present s).now + 1)) × (there ≡ session.Do (Step 1))
AsksAsThere given s Skip there = there ≡ session.Skip
AsksAsThere given s Bad there = there ≡ session.Bad
AsksAsThere given s (Ask (Session c)) there = TakesNoTick c × (there ≡ session.Do c)
AsksAsThere given s (Ask (Lines is_wide)) there = there ≡ session.Lines is_wide
-- a session has no such command
AsksAsThere given s (Ask c) there = ⊥

-- a live run to whose lines this was said, where the other lines ask a session the same
abbrev pub RunsAsThere : Setup → Live → List (List ℕ) → List (List ℕ) → List ℕ → Live → Type 0
RunsAsThere given from [] [] text now = (text ≡ []) × (now ≡ from)
RunsAsThere given from [] (other ∷ others) text now = ⊥
RunsAsThere given from (line ∷ lines) [] text now = ⊥
RunsAsThere given from (line ∷ lines) (other ∷ others) text now = (before answer : List ℕ) × (then : Live) × RunsAsThere given from lines others before then
    × Says then (suc (length lines)) (asked 202 line) answer On now
    × AsksAsThere given then (live_reading (asked 202 line)) (reading (asked 202 other)) × (text ≡ before ++ answer)

-- a session with or without wide lines, where these inputs remain
abbrev pub stand : Setup → Bool → List Input → Stand
stand given is_wide is = record { given = laid is_wide given; inputs = is }

-- then the bytes are those of that session, and the same inputs remain
abbrev pub RunsWriteAsThere : Type 0
RunsWriteAsThere = (given : Setup) (lines others : List (List ℕ)) (text : List ℕ) (now : Live) → RunsAsThere given (begun GoOn given.acts given.plan) lines others text now →
    Runs 202 says (stand given false []) others text (stand given now.is_wide now.inputs)
