-- The line of the desk byte by byte, which clauses of private functions speak of.
use Rattle.std.specs.Prelude.{ℕ, Bool, false, true, if◌then◌else◌, List, [], ◌∷◌, ◌++◌, Option, Some, None, codes, decimal}
use Rattle.tsb_objects.specs.tsb_rules.declared.rules.Rule.{Rule}
use Rattle.tsb_plan.specs.Names.{name_of}
use Rattle.tsb_plan_text.specs.RuleLines.{rule_name}
use Rattle.tsb_transact.specs.declared.edit.Edit.{Edit}
use Rattle.tsb_transact.specs.Desk.{Desk}
use Rattle.tsb_status_text.specs.EditsLine.{state_name}

-- a station
abbrev pub owner_bytes : Option ℕ → List ℕ
owner_bytes None = codes "null"
owner_bytes (Some station) = decimal station

-- a rule
abbrev pub rule_bytes : Option Rule → List ℕ
rule_bytes None = codes "null"
rule_bytes (Some r) = codes "\"" ++ (rule_name r ++ codes "\"")

-- an edit
abbrev pub edit_bytes : Edit → List ℕ
edit_bytes e =
    codes "{\"object\":\"" ++ (name_of e.id.object
    ++ (codes "\",\"index\":" ++ (decimal e.id.index
    ++ (codes ",\"value\":" ++ (decimal e.value
    ++ codes "}")))))

-- what stands before an edit: nothing before the first
abbrev pub comma : Bool → List ℕ
comma first = if first then [] else codes ","

-- edits with commas between them, and the bracket that closes them; the first needs no comma
abbrev pub list_bytes : Bool → List Edit → List ℕ
list_bytes first [] = codes "]"
list_bytes first (e ∷ es) = comma first ++ (edit_bytes e ++ list_bytes false es)

-- the desk
abbrev pub desk_bytes : Desk → List ℕ
desk_bytes desk =
    codes "{\"owner\":" ++ (owner_bytes desk.owner
    ++ (codes ",\"state\":\"" ++ (state_name desk.state
    ++ (codes "\",\"rule\":" ++ (rule_bytes desk.rule
    ++ (codes ",\"edits\":[" ++ (list_bytes true desk.edits
    ++ codes "}")))))))
