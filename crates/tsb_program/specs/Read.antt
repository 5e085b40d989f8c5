-- What a program has of the files that it read. The bytes of a file are known or not.
use Rattle.std.specs.Prelude.{◌≡◌, ◌≢◌, ◌⊎◌, ℕ, List, take, IfSome, Option, None, Result, Ok, Err, true}
use Rattle.std.specs.IoError.{error_kind}
use Rattle.std.specs.declared.io.Error.{Error}
use Rattle.std.specs.declared.io.ErrorKind.{ErrorKind}
use Rattle.std.specs.declared.io.ErrorKind.TheVariants as device
use Rattle.tsb_log_text.specs.declared.error.LogError.{LogError}
use Rattle.tsb_log_text.specs.declared.error.LogError.TheVariants as logs
use Rattle.tsb_log_text.specs.declared.log.LogRow.{LogRow}
use Rattle.tsb_log_text.specs.Logs.{Gives, log_of}
use Rattle.tsb_plan_text.specs.declared.error.PlanError.{PlanError}
use Rattle.tsb_plan_text.specs.declared.error.PlanError.TheVariants as told
use Rattle.tsb_plan_text.specs.PlanErrors as plans
use Rattle.tsb_plan_text.specs.PlanErrors.{Tells}
use Rattle.tsb_plan_text.specs.PlanText.{reading}
use Rattle.tsb_objects.specs.Checked.{checked_plan}
use Rattle.tsb_objects.specs.declared.checked.Checked.{Checked}
use Rattle.tsb_objects.specs.tsb_plan.Plan.{Plan}
use Rattle.tsb_program.specs.Clues.{log_clue, plan_clue}
use Rattle.tsb_program.specs.declared.clue.PlanClue.{PlanClue}
use Rattle.tsb_program.specs.declared.files.FileCause.TheVariants.{NoSuchFile, NotPermitted, Folder, Other}
use Rattle.tsb_program.specs.declared.files.FileError.{FileError}
use Rattle.tsb_program.specs.declared.files.FileError.TheVariants as files
use Rattle.tsb_program.specs.declared.read.PlanFault.{PlanFault}
use Rattle.tsb_program.specs.declared.read.ReadError.{ReadError}
use Rattle.tsb_program.specs.declared.read.ReadError.TheVariants as faults
use Rattle.tsb_program.specs.declared.read.RefusedLog.{RefusedLog}
use Rattle.tsb_lines.specs.declared.watched.Watched.{Watched}

-- these are the first bytes of a file, where its bytes are known, and all of them where there are no more than so many
abbrev pub IsFront : Option (List ℕ) → ℕ → List ℕ → Type 0
IsFront known most bytes = IfSome known (λ all. bytes ≡ take most all)

-- the file has a text that gives this log
abbrev pub HasLog : Option (List ℕ) → List LogRow → Type 0
HasLog known rows = (text : List ℕ) × IsFront known 67108865 text × (log_of text ≡ Ok rows)

-- the file has a text that gives no log, for this fault; and a second line says this of it
abbrev pub RefusesLog : Option (List ℕ) → RefusedLog → Type 0
RefusesLog known refused =
    (text : List ℕ) × IsFront known 67108865 text × (log_of text ≡ Err refused.why) × (refused.clue ≡ log_clue refused.why text)

-- out of memory is told as such, and each other fault of a device as a file that was not read
abbrev pub file_fault : ErrorKind → FileError
file_fault device.OutOfMemory = files.Memory
file_fault device.NotFound = files.Read NoSuchFile
file_fault device.PermissionDenied = files.Read NotPermitted
file_fault device.IsADirectory = files.Read Folder
file_fault kind = files.Read Other

-- the file was not opened, and this is what was said of it
abbrev pub IsNotOpened : {R : Type 0} → (Result R Error → Type 0) → FileError → Type 0
IsNotOpened may_open fault = (error : Error) × may_open (Err error) × (fault ≡ file_fault (error_kind error))

-- the file was opened, and a read of it has failed or was interrupted
abbrev pub HasFailedRead : {R : Type 0} → (Result R Error → Type 0) → Type 0
HasFailedRead {R} may_open = (reader : R) × may_open (Ok reader) × (watched : Watched R) × (watched.failed ≡ true)

-- a file or a read of it is to blame for this fault, but where memory ran out
abbrev pub IsBlamed : {R : Type 0} → (Result R Error → Type 0) → FileError → Type 0
IsBlamed may_open fault = fault ≢ files.Memory → IsNotOpened may_open fault ⊎ HasFailedRead may_open

-- the same of why a file gives nothing: a refusal blames its text
abbrev pub BlamesFile : {R T : Type 0} → (Result R Error → Type 0) → ReadError T → Type 0
BlamesFile may_open (faults.Failed why) = IsBlamed may_open why
BlamesFile may_open (faults.Refused fault) = Unit {0}

-- what was made of a log's text: out of memory is no refusal
abbrev pub log_made : Result (List LogRow) LogError → List ℕ → Result (List LogRow) (ReadError RefusedLog)
log_made (Ok rows) text = Ok rows
log_made (Err logs.Memory) text = Err (faults.Failed files.Memory)
log_made (Err fault) text = Err (faults.Refused (record { why = fault; clue = log_clue fault text }))

-- what came of what was read of a log's file: why it was not read, or what was made of its text
abbrev pub LogIn : {V : Type 0} → (V → List ℕ) → Result V FileError → Result (List LogRow) (ReadError RefusedLog) → Type 0
LogIn text_of (Ok read) result = (answer : Result (List LogRow) LogError) × Gives answer (log_of (text_of read)) × (result ≡ log_made answer (text_of read))
LogIn text_of (Err why) result = result ≡ Err (faults.Failed why)

-- what came of reading a log's file
abbrev pub LogRead : Result (List LogRow) (ReadError RefusedLog) → Option (List ℕ) → Type 0
LogRead (Ok rows) known = HasLog known rows
LogRead (Err (faults.Refused fault)) known = RefusesLog known fault
LogRead (Err (faults.Failed why)) known = Unit {0}

-- the file has a text that gives this plan; of one that is too long a byte more than the longest was read
abbrev pub HasPlan : Option (List ℕ) → Plan → Type 0
HasPlan known plan = (text : List ℕ) × IsFront known 1048577 text × (reading text ≡ Ok plan)

-- the file has a text that gives no plan, for this fault, which is not out of memory
abbrev pub RefusesPlan : Option (List ℕ) → PlanError → Type 0
RefusesPlan known fault =
    (text : List ℕ) × IsFront known 1048577 text × Tells fault (reading text) × (fault ≡ told.Memory → ⊥)

-- what was made of a plan's text: out of memory is no refusal
abbrev pub plan_made : Result Checked PlanError → Result Checked (ReadError PlanError)
plan_made (Ok plan) = Ok plan
plan_made (Err told.Memory) = Err (faults.Failed files.Memory)
plan_made (Err fault) = Err (faults.Refused fault)

-- what came of what was read of a plan's file: why it was not read, or what was made of its text
abbrev pub PlanIn : {V : Type 0} → (V → List ℕ) → Result V FileError → Result Checked (ReadError PlanError) → Type 0
PlanIn text_of (Ok read) result = (answer : Result Checked PlanError) × plans.Gives checked_plan answer (reading (text_of read)) × (result ≡ plan_made answer)
PlanIn text_of (Err why) result = result ≡ Err (faults.Failed why)

-- what came of reading a plan's file
abbrev pub PlanRead : Result Checked (ReadError PlanError) → Option (List ℕ) → Type 0
PlanRead (Ok found) known = HasPlan known (checked_plan found)
PlanRead (Err (faults.Refused fault)) known = RefusesPlan known fault
PlanRead (Err (faults.Failed why)) known = Unit {0}

-- what a second line says of a text, by why it gives no plan
abbrev pub clue_of : ReadError PlanError → List ℕ → Option PlanClue
clue_of (faults.Refused fault) text = plan_clue fault text
clue_of (faults.Failed why) text = None

-- the same beside why a text gives no plan
abbrev pub placed : Result Checked (ReadError PlanError) → List ℕ → Result Checked PlanFault
placed (Ok plan) text = Ok plan
placed (Err why) text = Err (record { why = why; clue = clue_of why text })

-- what came of what was read of a plan's file, with what a second line says of its text
abbrev pub PlanPlaced : {V : Type 0} → (V → List ℕ) → Result V FileError → Result Checked PlanFault → Type 0
PlanPlaced text_of (Ok read) result =
    (answer : Result Checked PlanError) × plans.Gives checked_plan answer (reading (text_of read)) × (result ≡ placed (plan_made answer) (text_of read))
PlanPlaced text_of (Err why) result = result ≡ Err (record { why = faults.Failed why; clue = None })

-- the file has a text that gives no plan, for this fault, which is not out of memory; and a second line says this of it
abbrev pub RefusesPlanAt : Option (List ℕ) → PlanError → Option PlanClue → Type 0
RefusesPlanAt known fault clue =
    (text : List ℕ) × IsFront known 1048577 text × Tells fault (reading text) × (fault ≡ told.Memory → ⊥) × (clue ≡ plan_clue fault text)

-- why the file gives no plan, and what a second line says of its text
abbrev pub HasNoPlan : ReadError PlanError → Option PlanClue → Option (List ℕ) → Type 0
HasNoPlan (faults.Refused fault) clue known = RefusesPlanAt known fault clue
HasNoPlan (faults.Failed why) clue known = Unit {0}

-- what came of reading a plan's file, with what a second line says of its text
abbrev pub PlanFound : Result Checked PlanFault → Option (List ℕ) → Type 0
PlanFound (Ok found) known = HasPlan known (checked_plan found)
PlanFound (Err fault) known = HasNoPlan fault.why fault.clue known
