-- What reading a file comes to, by what its text gave, and what is told of it.
use Rattle.std.proofs.Common.{◌≡◌, ℕ, List, Option, inl, inr, subst, sym}
use Rattle.std.specs.Prelude.{Result, Ok, Err}
use Rattle.tsb_text.specs.tsb_objects.Checked.{checked_plan}
use Rattle.tsb_text.specs.tsb_objects.declared.checked.Checked.{Checked}
use Rattle.tsb_text.specs.tsb_plan.Plan.{Plan}
use Rattle.tsb_text.specs.tsb_plan_text.declared.error.PlanError.{PlanError}
use Rattle.tsb_program.specs.declared.files.FileError.TheVariants as files
use Rattle.tsb_program.specs.declared.read.ReadError.{ReadError}
use Rattle.tsb_program.specs.declared.read.ReadError.TheVariants as faults
use Rattle.tsb_program.specs.tsb_lines.Seen.{Seen}
use Rattle.tsb.specs.Ends.{Checks, Reported, Stops}
use Rattle.tsb_program.specs.Lines.{WroteRefusal, plan_line, refused_log}
use Rattle.tsb_program.specs.Told.{Refuses, TellsNoPlan, TellsWhy}
use Rattle.tsb_program.specs.Read.{HasNoPlan, HasPlan, LogRead, PlanRead}
use Rattle.tsb_program.specs.declared.clue.PlanClue.{PlanClue}
use Rattle.tsb_program.specs.declared.read.PlanFault.{PlanFault}
use Rattle.tsb_program.specs.declared.read.RefusedLog.{RefusedLog}

-- a log that is not had ends `run` where there is a plan
pub stops-log : (fault : ReadError RefusedLog) (found : Plan) (status : ℕ) (plan log : List ℕ) (known : List ℕ → Option (List ℕ)) (told tells : Seen) → HasPlan (known plan) found
    → LogRead (Err fault) (known log) → Refuses refused_log log fault status told tells → Stops status plan log known told tells
stops-log (faults.Failed why) found status plan log known old new has read fails = inr (inr (inr (found, has, (why, fails))))
stops-log (faults.Refused why) found status plan log known old new has read (inl line) = inr (inl (line.0, found, has, why, read, line.1))
stops-log (faults.Refused why) found status plan log known old new has read (inr none) = inr (inr (inl (files.Memory, none)))

-- so does a plan that is not had
stops-by : (why : ReadError PlanError) (clue : Option PlanClue) (status : ℕ) (plan log : List ℕ) (known : List ℕ → Option (List ℕ)) (told tells : Seen)
    → HasNoPlan why clue (known plan) → TellsWhy plan why clue status told tells → Stops status plan log known told tells
stops-by (faults.Failed why) clue status plan log known old new has line = inr (inr (inl (why, line)))
stops-by (faults.Refused fault) clue status plan log known old new has line = inl (fault, clue, has, line)

pub stops-plan : (fault : PlanFault) (status : ℕ) (plan log : List ℕ) (known : List ℕ → Option (List ℕ)) (told tells : Seen)
    → HasNoPlan fault.why fault.clue (known plan) → TellsNoPlan plan fault status told tells → Stops status plan log known told tells
stops-plan fault status plan log known old new has line = stops-by fault.why fault.clue status plan log known old new has line

-- what was found of a plan is that of its file
pub checks : (found : Result Checked (ReadError PlanError)) (name : List ℕ) (file : Option (List ℕ)) (status : ℕ) (old new told tells : Seen) → PlanRead found file
    → Reported name found status old new told tells → Checks name status file old new told tells
checks (Ok plan) name file status old new told tells has judged = inl (checked_plan plan, has, judged)
checks (Err (faults.Refused fault)) name file status old new told tells has (inl judged) = inr (inl (fault, has, judged))
checks (Err (faults.Refused fault)) name file status old new told tells has (inr none) = inr (inr (none.0, (files.Memory, none.1)))
checks (Err (faults.Failed why)) name file status old new told tells read stays = inr (inr (stays.0, (why, stays.1)))

-- what is judged of a plan that is refused is reported of it
pub refused-so : (found : Result Checked (ReadError PlanError)) (name : List ℕ) (why : PlanError) (status : ℕ) (old new told tells : Seen) → found ≡ Err (faults.Refused why)
    → WroteRefusal status (plan_line why) old new told tells → Reported name found status old new told tells
refused-so found name why status old new told tells is judged =
    subst (λ (f : Result Checked (ReadError PlanError)). Reported name f status old new told tells) (sym is) (inl judged)
