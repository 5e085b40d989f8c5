-- Second lines: what is said of a plan's text, and which file was not read.
use Rattle.std.specs.Prelude.{◌≡◌, ◌⊎◌, ℕ, List, ◌++◌, map, take, Option, codes}
use Rattle.tsb_plan_text.specs.declared.error.PlanError.{PlanError}
use Rattle.tsb_text.specs.declared.error.SessionError.{SessionError}
use Rattle.tsb_text.specs.declared.error.SessionError.TheVariants as ends
use Rattle.tsb_program.specs.Failures.{Fails}
use Rattle.tsb_program.specs.Lines.{TellsRefusal, plan_line, refused_log}
use Rattle.tsb_program.specs.Clues.{plan_clue, plan_clue_line}
use Rattle.tsb_program.specs.declared.clue.PlanClue.{PlanClue}
use Rattle.tsb_program.specs.declared.failure.Failure.TheVariants.{Memory, Input, Write}
use Rattle.tsb_program.specs.declared.files.FileCause.{FileCause}
use Rattle.tsb_program.specs.declared.files.FileCause.TheVariants.{NoSuchFile, NotPermitted, Folder, Other}
use Rattle.tsb_program.specs.declared.files.FileError.{FileError}
use Rattle.tsb_program.specs.declared.files.FileError.TheVariants as files
use Rattle.tsb_program.specs.declared.read.PlanFault.{PlanFault}
use Rattle.tsb_program.specs.declared.read.ReadError.{ReadError}
use Rattle.tsb_program.specs.declared.read.ReadError.TheVariants as faults
use Rattle.tsb_program.specs.declared.read.RefusedLog.{RefusedLog}
use Rattle.tsb_program.specs.declared.told.TheConstants.{SHOWN}
use Rattle.tsb_lines.specs.Seen.{Seen, Tells}
use Rattle.tsb_words.specs.Shown.{safe}

-- ## A file that was not read

-- a name as it is told: its first bytes, with a question mark for all that a line can't show
abbrev pub shown : List ℕ → List ℕ
shown name = map safe (take SHOWN name)

-- why a file was not read, and the end of its line
abbrev pub cause_text : FileCause → List ℕ
cause_text NoSuchFile = codes ": no such file\n"
cause_text NotPermitted = codes ": not permitted\n"
cause_text Folder = codes ": a folder\n"
cause_text Other = codes "\n"

-- the line of a file that was not read
abbrev pub file_line : List ℕ → FileCause → List ℕ
file_line name cause = codes "file \"" ++ (shown name ++ (codes "\"" ++ cause_text cause))

-- that the file of this name was not read is told: that memory ran out, or in a second line which file it was
abbrev pub FailsFile : List ℕ → FileError → ℕ → Seen → Seen → Type 0
FailsFile name files.Memory status told tells = Fails Memory status told tells
FailsFile name (files.Read cause) status told tells = (status ≡ 3) × Tells told tells (codes "read fault\n" ++ file_line name cause)

-- the same, for some reason
abbrev pub FailsToReadFile : List ℕ → ℕ → Seen → Seen → Type 0
FailsToReadFile name status told tells = (why : FileError) × FailsFile name why status told tells

-- ## A plan or a log that there is not

-- the lines of a fault of a plan with this text: that of the fault, and that of what is said of the text
abbrev pub plan_lines : PlanError → List ℕ → List ℕ
plan_lines fault text = plan_line fault ++ plan_clue_line (plan_clue fault text)

-- a plan is refused with 1: its fault is told, and in a second line what is said of its text
abbrev pub RefusesAt : PlanError → Option PlanClue → ℕ → Seen → Seen → Type 0
RefusesAt fault clue status told tells =
    ((status ≡ 1) × Tells told tells (plan_line fault ++ plan_clue_line clue)) ⊎ Fails Memory status told tells

-- why there is no plan is told, with the name of its file, where that was not read
abbrev pub TellsWhy : List ℕ → ReadError PlanError → Option PlanClue → ℕ → Seen → Seen → Type 0
TellsWhy name (faults.Failed why) clue status told tells = FailsFile name why status told tells
TellsWhy name (faults.Refused fault) clue status told tells = RefusesAt fault clue status told tells

-- the same of a fault with what is said of the text
abbrev pub TellsNoPlan : List ℕ → PlanFault → ℕ → Seen → Seen → Type 0
TellsNoPlan name fault status told tells = TellsWhy name fault.why fault.clue status told tells

-- a line says why there is no plan or log: the file of this name was not read, or its text is refused by its own line
abbrev pub Refuses : {A : Type 0} → (A → List ℕ) → List ℕ → ReadError A → ℕ → Seen → Seen → Type 0
Refuses line_of name (faults.Failed why) status told tells = FailsFile name why status told tells
Refuses line_of name (faults.Refused why) status told tells = TellsRefusal line_of why status told tells

-- a log is refused with 1
abbrev pub RefusesLogText : RefusedLog → ℕ → Seen → Seen → Type 0
RefusesLogText fault status told tells = TellsRefusal refused_log fault status told tells

-- the same of a log
abbrev pub TellsNoLog : List ℕ → ReadError RefusedLog → ℕ → Seen → Seen → Type 0
TellsNoLog name fault status told tells = Refuses refused_log name fault status told tells

-- ## A run on standard input

-- what ended it is told, with 3: a failure, or commands without end
abbrev pub TellsInputEnd : SessionError → ℕ → Seen → Seen → Type 0
TellsInputEnd ends.Memory status told tells = Fails Memory status told tells
TellsInputEnd ends.Read status told tells = Fails Input status told tells
TellsInputEnd ends.Write status told tells = Fails Write status told tells
TellsInputEnd ends.TooLarge status told tells = (status ≡ 3) × Tells told tells (codes "commands: too large\n")
