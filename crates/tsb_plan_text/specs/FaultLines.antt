-- The line that tells a fault of a plan text, without its end. A name and an index stand as the text decodes them.
use Rattle.std.specs.Prelude.{ℕ, List, ◌++◌, codes, string_bytes}
use Rattle.tsb_plan.specs.Names.{name_of}
use Rattle.tsb_plan.specs.declared.object.Object.{Object}
use Rattle.tsb_plan_text.specs.RuleLines.{rule_line}
use Rattle.tsb_plan_text.specs.declared.error.PlanError.{PlanError}
use Rattle.tsb_plan_text.specs.declared.error.PlanError.TheVariants as told

-- an object's index, which has this fault
abbrev pub at_index : Object → List ℕ → List ℕ → List ℕ
at_index o index fault = codes "plan: " ++ name_of o ++ codes "." ++ index ++ fault

-- what a plan's fault is told as
abbrev pub plan_fault : PlanError → List ℕ
plan_fault told.Memory = codes "memory"
plan_fault told.TooLarge = codes "plan: too large"
plan_fault told.NotJson = codes "plan: not JSON"
plan_fault told.NotATable = codes "plan: not a table"
plan_fault told.Version = codes "plan: version"
plan_fault (told.NoSuchObject name) = codes "plan: " ++ string_bytes name ++ codes ": no such object"
plan_fault (told.ObjectNotATable o) = codes "plan: " ++ name_of o ++ codes ": not a table"
plan_fault (told.NoSuchIndex o index) = at_index o (string_bytes index) (codes ": no such object")
plan_fault (told.NotAWholeNumber o index) = at_index o (string_bytes index) (codes ": not a whole number")
plan_fault (told.OutOfRange o index) = at_index o (string_bytes index) (codes ": out of range")
plan_fault told.NotesNotATable = codes "plan: notes: not a table"
plan_fault (told.NoteNotAText name) = codes "plan: notes." ++ string_bytes name ++ codes ": not a text"
plan_fault (told.Rule r) = codes "plan: " ++ rule_line r
