-- Notes change nothing. The law is the contract of a function in src/laws.rt, and proved there.
use Rattle.std.specs.Prelude.{◌≡◌, ℕ, ◌≤◌, List, length, Some, Ok, if◌then◌else◌, codes, bytes_eq}
use Rattle.serde_json.specs.Data.{Members, no_members, member, object}
use Rattle.tsb_plan.specs.Plan.{Plan}
use Rattle.tsb_plan_text.specs.PlanText.{limit, data_of, reading}

-- the members of a text without its notes
abbrev pub without_notes : Members → Members
without_notes no_members = no_members
without_notes (member name d rest) =
    if bytes_eq name (codes "notes") then without_notes rest else member name d (without_notes rest)

-- a text that gives a plan gives the same one without its notes
abbrev pub NotesChangeNothing : Type 0
NotesChangeNothing = (text other : List ℕ) (members : Members) (plan : Plan) → reading text ≡ Ok plan →
    data_of text ≡ Some (object members) → data_of other ≡ Some (object (without_notes members)) → length other ≤ limit →
    reading other ≡ Ok plan
