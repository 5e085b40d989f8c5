-- Why there is no run is told.
use Rattle.std.proofs.Common.{ℕ, List, inl, inr}
use Rattle.std.specs.declared.option.Option.{Option}
use Rattle.tsb_text.specs.tsb_plan_text.declared.error.PlanError.{PlanError}
use Rattle.tsb_program.specs.Read.{HasNoPlan}
use Rattle.tsb_program.specs.Told.{TellsNoPlan, TellsWhy}
use Rattle.tsb_program.specs.declared.read.PlanFault.{PlanFault}
use Rattle.tsb_program.specs.declared.read.ReadError.{ReadError}
use Rattle.tsb_program.specs.declared.read.ReadError.TheVariants as faults
use Rattle.tsb_program.specs.declared.clue.PlanClue.{PlanClue}
use Rattle.tsb_program.specs.tsb_lines.Seen.{Seen}
use Rattle.tsb_live.specs.Ends.{Stops}

stops-by : (why : ReadError PlanError) (clue : Option PlanClue) (name : List ℕ) (file : Option (List ℕ)) (status : ℕ) (told tells : Seen) → HasNoPlan why clue file
    → TellsWhy name why clue status told tells → Stops name status file told tells
stops-by (faults.Failed why) clue name file status told tells has line = inr (why, line)
stops-by (faults.Refused fault) clue name file status told tells has line = inl (fault, clue, has, line)

pub stops : (fault : PlanFault) (name : List ℕ) (file : Option (List ℕ)) (status : ℕ) (told tells : Seen) → HasNoPlan fault.why fault.clue file → TellsNoPlan name fault status told tells
    → Stops name status file told tells
stops fault name file status told tells has line = stops-by fault.why fault.clue name file status told tells has line
