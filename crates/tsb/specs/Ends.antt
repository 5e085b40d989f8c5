-- How the program ends, and what it has then written on its output and of faults.
--
-- `before` and `after` are what is seen of all devices; of the output alone that is `old` and `new`, and of faults `told`
-- and `tells`.
use Rattle.std.specs.Prelude.{◌≡◌, ◌⊎◌, ℕ, true, false, List, [], Option, None, Result, Ok, Err, codes}
use Rattle.tsb_words.specs.declared.bench.Asked.{Asked}
use Rattle.tsb_words.specs.declared.bench.Asked.TheVariants as asks
use Rattle.tsb_words.specs.declared.error.WordsError.{WordsError}
use Rattle.tsb_text.specs.tsb_objects.declared.checked.Checked.{Checked}
use Rattle.tsb_text.specs.tsb_plan.Plan.{Plan}
use Rattle.tsb_text.specs.tsb_plan.Two.{two}
use Rattle.tsb_text.specs.tsb_plan_text.declared.error.PlanError.{PlanError}
use Rattle.tsb_text.specs.declared.error.SessionError.{SessionError}
use Rattle.tsb_text.specs.Answers.{Setup}
use Rattle.tsb_text.specs.Blame.{Blames}
use Rattle.tsb_text.specs.Ended.{Ended}
use Rattle.tsb_program.specs.tsb_lines.Seen.{Seen, Tells}
use Rattle.tsb_program.specs.Runs.{TellsWords}
use Rattle.tsb.specs.Lines.{usage}
use Rattle.tsb_program.specs.Devices.{Devices, OnlyTells, ReadsNothing}
use Rattle.tsb_program.specs.Lines.{TellsEnd, Wrote, WroteRefusal, log_line, plan_line}
use Rattle.tsb_program.specs.Told.{FailsFile, FailsToReadFile, RefusesAt}
use Rattle.tsb_program.specs.Failures.{Fails}
use Rattle.tsb_program.specs.declared.failure.Failure.TheVariants.{Memory}
use Rattle.tsb_program.specs.declared.read.ReadError.{ReadError}
use Rattle.tsb_program.specs.declared.read.ReadError.TheVariants as faults
use Rattle.tsb_program.specs.Read.{HasLog, HasPlan, RefusesLog, RefusesPlan, RefusesPlanAt}
use Rattle.tsb_program.specs.declared.clue.PlanClue.{PlanClue}
use Rattle.tsb_program.specs.declared.read.RefusedLog.{RefusedLog}

-- nothing was written, and this is told
abbrev pub Stays : (ℕ → Seen → Seen → Type 0) → ℕ → (old new told tells : Seen) → Type 0
Stays Says status old new told tells = (new ≡ old) × Says status told tells

-- what was found of the plan in the file of this name is reported: what its text gives is written, where there is memory
-- for the line, and of a refused one what lists all faults; why it was not read is told, with its name
abbrev pub Reported : List ℕ → Result Checked (ReadError PlanError) → ℕ → (old new told tells : Seen) → Type 0
Reported name (Ok plan) status old new told tells = Wrote status 0 (codes "plan ok\n") old new told tells
Reported name (Err (faults.Refused fault)) status old new told tells =
    WroteRefusal status (plan_line fault) old new told tells ⊎ Stays (Fails Memory) status old new told tells
Reported name (Err (faults.Failed why)) status old new told tells = Stays (FailsFile name why) status old new told tells

-- how a check of the plan in the file of this name ended: that its text gives one was written, with 0, or the fault that it
-- has, with 1; or the file or memory failed, which is told, and nothing was written
abbrev pub Checks : List ℕ → ℕ → Option (List ℕ) → (old new told tells : Seen) → Type 0
Checks name status file old new told tells =
    ((plan : Plan) × HasPlan file plan × Wrote status 0 (codes "plan ok\n") old new told tells)
    ⊎ (((fault : PlanError) × RefusesPlan file fault × WroteRefusal status (plan_line fault) old new told tells)
    ⊎ Stays (FailsToReadFile name) status old new told tells)

-- a session ended well with 0 and nothing told, or by a fault, with 3 and its line
abbrev pub EndsSo : Result (Unit {0}) SessionError → ℕ → Seen → Seen → Type 0
EndsSo (Ok u) status told tells = (status ≡ 0) × (tells ≡ told)
EndsSo (Err fault) status told tells = TellsEnd fault status told tells

-- a session on this plan and log ended so: by a fault of a device exactly where a call of that device has failed
abbrev pub Talked : ℕ → Setup → (before after : Devices) → Type 0
Talked status given before after =
    (result : Result (Unit {0}) SessionError)
    × Ended result given before.input.bytes after.input.bytes before.output.bytes after.output.bytes
    × Blames result after.input.failed after.output.failed after.output.flushed × EndsSo result status before.errors after.errors

-- there is no session on the files of these names: with 1 because the plan is refused, or because there is a plan and the
-- log is refused, each with its own line and what there is to say of its text; or because a file, which is named, or memory
-- failed
abbrev pub Stops : ℕ → (plan log : List ℕ) → (List ℕ → Option (List ℕ)) → Seen → Seen → Type 0
Stops status plan log files told tells =
    ((fault : PlanError) × (clue : Option PlanClue) × RefusesPlanAt (files plan) fault clue × RefusesAt fault clue status told tells)
    ⊎ (((status ≡ 1) × (found : Plan) × HasPlan (files plan) found × (fault : RefusedLog) × RefusesLog (files log) fault × Tells told tells (log_line fault))
    ⊎ (FailsToReadFile plan status told tells ⊎ ((found : Plan) × HasPlan (files plan) found × FailsToReadFile log status told tells)))

-- how `run` ended on the files of a plan and a log, of these names: after a session, or with nothing read and nothing
-- answered
abbrev pub Ran : ℕ → (plan log : List ℕ) → (List ℕ → Option (List ℕ)) → (before after : Devices) → Type 0
Ran status plan log files before after =
    ((given : Setup) × HasPlan (files plan) given.plan × HasLog (files log) given.log × (given.acts ≡ true) × (given.is_wide ≡ false) × Talked status given before after)
    ⊎ OnlyTells (Stops status plan log files) before after

-- how the built-in plan of two phases was run with an empty log
abbrev pub RanBuiltIn : ℕ → (before after : Devices) → Type 0
RanBuiltIn status before after = Talked status (record { plan = two; log = []; acts = true; is_wide = false }) before after

-- what was done for what the words ask, where files has the known bytes of each path
abbrev pub Did : Result Asked WordsError → ℕ → (List ℕ → Option (List ℕ)) → (before after : Devices) → Type 0
Did (Ok (asks.Check plan)) status files before after = ReadsNothing (Checks plan.now status (files plan.now)) before after
Did (Ok (asks.Run plan log)) status files before after = Ran status plan.now log.now files before after
Did (Ok asks.BuiltIn) status files before after = RanBuiltIn status before after
Did (Err fault) status files before after = OnlyTells (TellsWords None usage fault status) before after
