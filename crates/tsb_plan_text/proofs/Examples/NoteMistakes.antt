-- A text with a note, and without it; and a mistake, with an example in which it refuses the text.
use Rattle.std.specs.Prelude.{◌≡◌, ℕ, List, Result, Ok, Err, codes, refl}
use Rattle.serde_json.specs.Data.{Data, no_members, member, object, string}
use Rattle.tsb_plan.specs.declared.version.Version.{Version}
use Rattle.tsb_plan.specs.declared.version.Version.TheVariants.{Two, Three}
use Rattle.tsb_plan.specs.Names.{object_named}
use Rattle.tsb_plan.specs.Objects.{objects}
use Rattle.tsb_plan.specs.Plan.{Plan}
use Rattle.tsb_plan_text.specs.NotesLaw.{without_notes}
use Rattle.tsb_plan_text.specs.PlanErrors.{Error, no_such_object, note_not_a_text}
use Rattle.tsb_plan_text.specs.PlanText.{with_object, with_notes, with_member}

-- a note of the site, and one of a phase's minimum green
abbrev pub notes : Data
notes = object (member (codes "phaseMinimumGreen.2") (string (codes "bicycles")) (member (codes "site") (string (codes "Elm and 3rd")) no_members))

with_a_note : (plan : Plan) → with_member Three (codes "notes") notes plan ≡ Ok plan
unfolding with_member with_notes
with_a_note plan = refl

without_it : without_notes (member (codes "notes") notes no_members) ≡ no_members
without_it = refl

-- version 2 has no notes
no_notes_before : (plan : Plan) → with_member Two (codes "notes") notes plan ≡ Err (no_such_object (codes "notes"))
unfolding with_member with_object object_named objects
no_notes_before plan = refl

-- a note that is a table
is_no_text : (plan : Plan) → with_member Three (codes "notes") (object (member (codes "site") (object no_members) no_members)) plan ≡ Err (note_not_a_text (codes "site"))
unfolding with_member with_notes
is_no_text plan = refl

-- ## Notes are read as the table of an object

abbrev pub read_as_table : Version → List ℕ → Data → Plan → Result Plan Error
read_as_table v name d plan = with_object v name d plan

would_be_none : (plan : Plan) → read_as_table Three (codes "notes") notes plan ≡ Err (no_such_object (codes "notes"))
unfolding with_object object_named objects
would_be_none plan = refl
