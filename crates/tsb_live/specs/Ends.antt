-- How the program ends, and what it has then written on its output and of faults.
--
-- `before` and `after` are what is seen of all devices; of the output alone that is `old` and `new`, and of faults `told`
-- and `tells`.
use Rattle.std.specs.Prelude.{◌≡◌, ◌⊎◌, ℕ, true, List, Option, Some, None, Result, Ok, Err, codes}
use Rattle.tsb_words.specs.declared.live.Asked.{Asked}
use Rattle.tsb_words.specs.declared.error.WordsError.{WordsError}
use Rattle.tsb_words.specs.LiveWords.{Spells}
use Rattle.tsb_words.specs.Near.{live_near}
use Rattle.tsb_text.specs.tsb_plan.Plan.{Plan}
use Rattle.tsb_text.specs.tsb_plan_text.declared.error.PlanError.{PlanError}
use Rattle.tsb_text.specs.declared.error.SessionError.{SessionError}
use Rattle.tsb_text.specs.declared.faults.OnFault.{OnFault}
use Rattle.tsb_text.specs.Blame.{Blames}
use Rattle.tsb_text.specs.Faults.{fault_line}
use Rattle.tsb_live_text.specs.LiveEnded.{LiveEnded}
use Rattle.tsb_text.specs.declared.stop.Stop.{Stop}
use Rattle.tsb_program.specs.tsb_lines.Seen.{Seen, Tells}
use Rattle.tsb_program.specs.Read.{HasPlan, RefusesPlanAt}
use Rattle.tsb_program.specs.Told.{FailsToReadFile, RefusesAt, TellsInputEnd}
use Rattle.tsb_program.specs.declared.clue.PlanClue.{PlanClue}
use Rattle.tsb_program.specs.Devices.{Devices, OnlyTells, ReadsNothing}
use Rattle.tsb_program.specs.Lines.{Wrote}
use Rattle.tsb_program.specs.Runs.{TellsWords, after_fault}
use Rattle.tsb_live.specs.Lines.{usage}

-- a live run ended well with 0 and nothing written of faults; or at a line with which something is wrong, with 4 and
-- that line; or by a fault, with 3 and its lines
abbrev pub EndsSo : Result (Option Stop) SessionError → ℕ → Seen → Seen → Type 0
EndsSo (Ok None) status told tells = (status ≡ 0) × (tells ≡ told)
EndsSo (Ok (Some stop)) status told tells = (status ≡ 4) × Tells told tells (fault_line (codes "line ") stop.number stop.line.items stop.fault)
EndsSo (Err fault) status told tells = TellsInputEnd fault status told tells

-- a live run on this plan ended so: by a fault of a device exactly where a call of that device has failed
abbrev pub Talked : ℕ → OnFault → Plan → (before after : Devices) → Type 0
Talked status on_fault plan before after =
    (result : Result (Option Stop) SessionError)
    × LiveEnded result on_fault true plan before.input.bytes after.input.bytes before.output.bytes after.output.bytes
    × Blames result after.input.failed after.output.failed after.output.flushed × EndsSo result status before.errors after.errors

-- there is no run: with 1 because the plan is refused, which its own line says, and a second one what is said of its
-- text; or because the file of this name, or memory, failed
abbrev pub Stops : List ℕ → ℕ → Option (List ℕ) → Seen → Seen → Type 0
Stops name status file told tells =
    ((fault : PlanError) × (clue : Option PlanClue) × RefusesPlanAt file fault clue × RefusesAt fault clue status told tells)
    ⊎ FailsToReadFile name status told tells

-- how the program ended on the file of a plan, of this name: after a live run, or with nothing read and nothing answered
abbrev pub Ran : List ℕ → ℕ → OnFault → Option (List ℕ) → (before after : Devices) → Type 0
Ran name status on_fault file before after =
    ((plan : Plan) × HasPlan file plan × Talked status on_fault plan before after)
    ⊎ OnlyTells (Stops name status file) before after

-- what was done for what the words ask, where files has the known bytes of each path, and the right word near a bad one
abbrev pub Did : Option (List ℕ) → Result Asked WordsError → ℕ → (List ℕ → Option (List ℕ)) → (before after : Devices) → Type 0
Did near (Ok asked) status files before after =
    Ran asked.plan.now status (after_fault asked.is_strict) (files asked.plan.now) before after
Did near (Err fault) status files before after = OnlyTells (TellsWords near usage fault status) before after

-- the page that words ask for, if any, is written, with nothing read; else what the words ask was done
abbrev pub Answered : Option (List ℕ) → List (List ℕ) → ℕ → (List ℕ → Option (List ℕ)) → (before after : Devices) → Type 0
Answered (Some page) words status files before after = ReadsNothing (Wrote status 0 page) before after
Answered None words status files before after =
    (answer : Result Asked WordsError) × Spells words answer × Did (live_near words) answer status files before after
