-- What reading a file comes to, by what its text gave.
use Rattle.std.proofs.Common.{◌≡◌, ◌≢◌, ℕ, List, Option, inr, refl, true}
use Rattle.std.specs.Prelude.{IfErr, IfOk, Result, Ok, Err}
use Rattle.std.specs.declared.io.Error.{Error}
use Rattle.tsb_log_text.specs.declared.error.LogError.{LogError}
use Rattle.tsb_log_text.specs.declared.error.LogError.TheVariants as logs
use Rattle.tsb_log_text.specs.declared.log.LogRow.{LogRow}
use Rattle.tsb_log_text.specs.Logs.{Gives, log_of}
use Rattle.tsb_plan_text.specs.declared.error.PlanError.{PlanError}
use Rattle.tsb_plan_text.specs.declared.error.PlanError.TheVariants as told
use Rattle.tsb_plan_text.specs.PlanErrors as plans
use Rattle.tsb_plan_text.specs.PlanText.{reading}
use Rattle.tsb_objects.specs.Checked.{checked_plan}
use Rattle.tsb_objects.specs.declared.checked.Checked.{Checked}
use Rattle.tsb_program.specs.declared.files.FileError.{FileError}
use Rattle.tsb_program.specs.declared.files.FileError.TheVariants as files
use Rattle.tsb_program.specs.declared.read.PlanFault.{PlanFault}
use Rattle.tsb_program.specs.declared.read.ReadError.{ReadError}
use Rattle.tsb_program.specs.declared.read.RefusedLog.{RefusedLog}
use Rattle.tsb_program.specs.Read.{BlamesFile, IsBlamed, IsFront, LogIn, LogRead, PlanFound, PlanIn, PlanPlaced, PlanRead, log_made, placed, plan_made}
use Rattle.tsb_lines.specs.declared.watched.Watched.{Watched}

log-read : (answer : Result (List LogRow) LogError) (known : Option (List ℕ)) (text : List ℕ) → IsFront known 67108865 text
    → Gives answer (log_of text) → LogRead (log_made answer text) known
log-read (Ok rows) known text front gives = (text, front, gives)
log-read (Err logs.Memory) known text front gives = tt
log-read (Err logs.TooLarge) known text front gives = (text, front, gives, refl)
log-read (Err (logs.Malformed n)) known text front gives = (text, front, gives, refl)
log-read (Err (logs.TickOrder n)) known text front gives = (text, front, gives, refl)

plan-read : (answer : Result Checked PlanError) (known : Option (List ℕ)) (text : List ℕ) → IsFront known 1048577 text
    → plans.Gives checked_plan answer (reading text) → PlanRead (plan_made answer) known
plan-read (Ok plan) known text front gives = (text, front, gives)
plan-read (Err told.Memory) known text front gives = tt
plan-read (Err told.TooLarge) known text front gives = (text, front, gives, λ is. cc)
plan-read (Err told.NotJson) known text front gives = (text, front, gives, λ is. cc)
plan-read (Err told.NotATable) known text front gives = (text, front, gives, λ is. cc)
plan-read (Err told.Version) known text front gives = (text, front, gives, λ is. cc)
plan-read (Err (told.NoSuchObject name)) known text front gives = (text, front, gives, λ is. cc)
plan-read (Err (told.ObjectNotATable o)) known text front gives = (text, front, gives, λ is. cc)
plan-read (Err (told.NoSuchIndex o index)) known text front gives = (text, front, gives, λ is. cc)
plan-read (Err (told.NotAWholeNumber o index)) known text front gives = (text, front, gives, λ is. cc)
plan-read (Err (told.OutOfRange o index)) known text front gives = (text, front, gives, λ is. cc)
plan-read (Err told.NotesNotATable) known text front gives = (text, front, gives, λ is. cc)
plan-read (Err (told.NoteNotAText name)) known text front gives = (text, front, gives, λ is. cc)
plan-read (Err (told.Rule r)) known text front gives = (text, front, gives, λ is. cc)

pub log-came : {V : Type 0} (text_of : V → List ℕ) (read : Result V FileError) (result : Result (List LogRow) (ReadError RefusedLog)) (known : Option (List ℕ))
    → IfOk read (λ v. IsFront known 67108865 (text_of v)) → LogIn text_of read result → LogRead result known
log-came text_of (Ok v) result known front came = rw came.2 (log-read came.0 known (text_of v) front came.1)
log-came text_of (Err why) result known front came = rw came tt

pub plan-came : {V : Type 0} (text_of : V → List ℕ) (read : Result V FileError) (result : Result Checked (ReadError PlanError)) (known : Option (List ℕ))
    → IfOk read (λ v. IsFront known 1048577 (text_of v)) → PlanIn text_of read result → PlanRead result known
plan-came text_of (Ok v) result known front came = rw came.2 (plan-read came.0 known (text_of v) front came.1)
plan-came text_of (Err why) result known front came = rw came tt

-- the same with what is said of a text
plan-placed : (answer : Result Checked PlanError) (known : Option (List ℕ)) (text : List ℕ) → IsFront known 1048577 text
    → plans.Gives checked_plan answer (reading text) → PlanFound (placed (plan_made answer) text) known
plan-placed (Ok plan) known text front gives = (text, front, gives)
plan-placed (Err told.Memory) known text front gives = tt
plan-placed (Err told.TooLarge) known text front gives = (text, front, gives, λ is. cc, refl)
plan-placed (Err told.NotJson) known text front gives = (text, front, gives, λ is. cc, refl)
plan-placed (Err told.NotATable) known text front gives = (text, front, gives, λ is. cc, refl)
plan-placed (Err told.Version) known text front gives = (text, front, gives, λ is. cc, refl)
plan-placed (Err (told.NoSuchObject name)) known text front gives = (text, front, gives, λ is. cc, refl)
plan-placed (Err (told.ObjectNotATable o)) known text front gives = (text, front, gives, λ is. cc, refl)
plan-placed (Err (told.NoSuchIndex o index)) known text front gives = (text, front, gives, λ is. cc, refl)
plan-placed (Err (told.NotAWholeNumber o index)) known text front gives = (text, front, gives, λ is. cc, refl)
plan-placed (Err (told.OutOfRange o index)) known text front gives = (text, front, gives, λ is. cc, refl)
plan-placed (Err told.NotesNotATable) known text front gives = (text, front, gives, λ is. cc, refl)
plan-placed (Err (told.NoteNotAText name)) known text front gives = (text, front, gives, λ is. cc, refl)
plan-placed (Err (told.Rule r)) known text front gives = (text, front, gives, λ is. cc, refl)

pub plan-found : {V : Type 0} (text_of : V → List ℕ) (read : Result V FileError) (result : Result Checked PlanFault) (known : Option (List ℕ))
    → IfOk read (λ v. IsFront known 1048577 (text_of v)) → PlanPlaced text_of read result → PlanFound result known
plan-found text_of (Ok v) result known front came = rw came.2 (plan-placed came.0 known (text_of v) front came.1)
plan-found text_of (Err why) result known front came = rw came tt

-- a fault of a file that was opened is that of a read
pub failed-read : {V R : Type 0} (may_open : Result R Error → Type 0) (reader : R) (watched : Watched R) (read : Result V FileError) → may_open (Ok reader)
    → IfErr read (λ fault. fault ≢ files.Memory → watched.failed ≡ true) → IfErr read (IsBlamed may_open)
failed-read may_open reader watched (Ok v) opened blame = tt
failed-read may_open reader watched (Err fault) opened blame = λ is_none. inr (reader, opened, watched, blame is_none)

-- where a text was read, no file is to blame
log-blamed : {R : Type 0} (may_open : Result R Error → Type 0) (answer : Result (List LogRow) LogError) (text : List ℕ) → IfErr (log_made answer text) (BlamesFile may_open)
log-blamed may_open (Ok rows) text = tt
log-blamed may_open (Err logs.Memory) text = λ is_none. absurd (is_none refl)
log-blamed may_open (Err logs.TooLarge) text = tt
log-blamed may_open (Err (logs.Malformed n)) text = tt
log-blamed may_open (Err (logs.TickOrder n)) text = tt

plan-blamed : {R : Type 0} (may_open : Result R Error → Type 0) (answer : Result Checked PlanError) → IfErr (plan_made answer) (BlamesFile may_open)
plan-blamed may_open (Ok plan) = tt
plan-blamed may_open (Err told.Memory) = λ is_none. absurd (is_none refl)
plan-blamed may_open (Err told.TooLarge) = tt
plan-blamed may_open (Err told.NotJson) = tt
plan-blamed may_open (Err told.NotATable) = tt
plan-blamed may_open (Err told.Version) = tt
plan-blamed may_open (Err (told.NoSuchObject name)) = tt
plan-blamed may_open (Err (told.ObjectNotATable o)) = tt
plan-blamed may_open (Err (told.NoSuchIndex o index)) = tt
plan-blamed may_open (Err (told.NotAWholeNumber o index)) = tt
plan-blamed may_open (Err (told.OutOfRange o index)) = tt
plan-blamed may_open (Err told.NotesNotATable) = tt
plan-blamed may_open (Err (told.NoteNotAText name)) = tt
plan-blamed may_open (Err (told.Rule r)) = tt

place-blamed : {R : Type 0} (may_open : Result R Error → Type 0) (made : Result Checked (ReadError PlanError)) (text : List ℕ) → IfErr made (BlamesFile may_open)
    → IfErr (placed made text) (λ fault. BlamesFile may_open fault.why)
place-blamed may_open (Ok plan) text blame = tt
place-blamed may_open (Err why) text blame = blame

pub log-blames : {V R : Type 0} (may_open : Result R Error → Type 0) (text_of : V → List ℕ) (read : Result V FileError) (result : Result (List LogRow) (ReadError RefusedLog))
    → IfErr read (IsBlamed may_open) → LogIn text_of read result → IfErr result (BlamesFile may_open)
log-blames may_open text_of (Ok v) result blame came = rw came.2 (log-blamed may_open came.0 (text_of v))
log-blames may_open text_of (Err why) result blame came = rw came blame

pub plan-blames : {V R : Type 0} (may_open : Result R Error → Type 0) (text_of : V → List ℕ) (read : Result V FileError) (result : Result Checked (ReadError PlanError))
    → IfErr read (IsBlamed may_open) → PlanIn text_of read result → IfErr result (BlamesFile may_open)
plan-blames may_open text_of (Ok v) result blame came = rw came.2 (plan-blamed may_open came.0)
plan-blames may_open text_of (Err why) result blame came = rw came blame

pub fault-blames : {V R : Type 0} (may_open : Result R Error → Type 0) (text_of : V → List ℕ) (read : Result V FileError) (result : Result Checked PlanFault)
    → IfErr read (IsBlamed may_open) → PlanPlaced text_of read result → IfErr result (λ fault. BlamesFile may_open fault.why)
fault-blames may_open text_of (Ok v) result blame came = rw came.2 (place-blamed may_open (plan_made came.0) (text_of v) (plan-blamed may_open came.0))
fault-blames may_open text_of (Err why) result blame came = rw came blame
