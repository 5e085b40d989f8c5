-- The faults of a plan text without where their text lies in memory, and when an answer is that of a definition.
use Rattle.std.specs.Prelude.{◌≡◌, ℕ, List, Result, Ok, Err, string_bytes}
use Rattle.tsb_objects.specs.tsb_rules.declared.rules.Rule.{Rule}
use Rattle.tsb_plan.specs.declared.object.Object.{Object}
use Rattle.tsb_plan.specs.Plan.{Plan}
use Rattle.tsb_plan_text.specs.declared.error.PlanError.{PlanError}
use Rattle.tsb_plan_text.specs.declared.error.PlanError.TheVariants as told

-- a name is what the text has, and an index too
pub data Error : Type 0 where
  too_large : Error
  not_json : Error
  not_a_table : Error
  no_version : Error
  no_such_object : List ℕ → Error
  object_not_a_table : Object → Error
  no_such_index : Object → List ℕ → Error
  not_a_whole_number : Object → List ℕ → Error
  out_of_range : Object → List ℕ → Error
  notes_not_a_table : Error
  note_not_a_text : List ℕ → Error
  broken : Rule → Error

-- The answer is this fault, or memory ran out: `Memory` alone stands for any fault.
abbrev pub Tells : {A : Type 0} → PlanError → Result A Error → Type 0
Tells told.Memory read = Unit {0}
Tells told.TooLarge read = read ≡ Err too_large
Tells told.NotJson read = read ≡ Err not_json
Tells told.NotATable read = read ≡ Err not_a_table
Tells told.Version read = read ≡ Err no_version
Tells (told.NoSuchObject name) read = read ≡ Err (no_such_object (string_bytes name))
Tells (told.ObjectNotATable o) read = read ≡ Err (object_not_a_table o)
Tells (told.NoSuchIndex o index) read = read ≡ Err (no_such_index o (string_bytes index))
Tells (told.NotAWholeNumber o index) read = read ≡ Err (not_a_whole_number o (string_bytes index))
Tells (told.OutOfRange o index) read = read ≡ Err (out_of_range o (string_bytes index))
Tells told.NotesNotATable read = read ≡ Err notes_not_a_table
Tells (told.NoteNotAText name) read = read ≡ Err (note_not_a_text (string_bytes name))
Tells (told.Rule r) read = read ≡ Err (broken r)

-- What was answered, seen by view, is what the definition gives, fault for fault, or memory ran out.
abbrev pub Gives : {A B : Type 0} → (A → B) → Result A PlanError → Result B Error → Type 0
Gives view (Ok x) read = read ≡ Ok (view x)
Gives view (Err e) read = Tells e read

-- The same of a call that changes a plan to this one. After a fault nothing is said of the plan.
abbrev pub Makes : Result (Unit {0}) PlanError → Plan → Result Plan Error → Type 0
Makes (Ok u) plan read = read ≡ Ok plan
Makes (Err e) plan read = Tells e read

-- ## Of a value that was made

-- it is a fault with a name or an index, which takes memory
abbrev pub HasText : {A : Type 0} → Result A Error → Type 0
HasText (Ok x) = ⊥
HasText (Err (no_such_object name)) = Unit {0}
HasText (Err (no_such_index o index)) = Unit {0}
HasText (Err (not_a_whole_number o index)) = Unit {0}
HasText (Err (out_of_range o index)) = Unit {0}
HasText (Err (note_not_a_text name)) = Unit {0}
HasText (Err f) = ⊥

-- The answer is this fault, or memory ran out for the text of a fault that has one.
abbrev pub TellsOf : {A : Type 0} → PlanError → Result A Error → Type 0
TellsOf told.Memory read = HasText read
TellsOf e read = Tells e read

-- What a call made of a plan, as in `Makes`: from a value on, memory is taken only for the text of a fault.
abbrev pub MakesOf : Result (Unit {0}) PlanError → Plan → Result Plan Error → Type 0
MakesOf (Ok u) plan read = read ≡ Ok plan
MakesOf (Err e) plan read = TellsOf e read
