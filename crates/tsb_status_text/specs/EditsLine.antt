-- The line of the desk: one JSON object, in ASCII, without spaces and without a line feed. `owner` and `state` are what
-- the status of the controller has under `desk`; `rule` is what the last check found. An edit names its object and index
-- as a command `set` does, and edits are in the order in which their objects were set first. What is none is null.
use Rattle.std.specs.Prelude.{ℕ, List, [], ◌∷◌, Option, Some, None, codes, decimal}
use Rattle.json.specs.Json.{Json, null, number, string, array, object, Items, no_items, item, no_members, member}
use Rattle.json.specs.Print.{print}
use Rattle.json.specs.Tree.{json_tokens}
use Rattle.tsb_objects.specs.tsb_rules.declared.rules.Rule.{Rule}
use Rattle.tsb_plan.specs.Names.{name_of}
use Rattle.tsb_plan_text.specs.RuleLines.{rule_name}
use Rattle.tsb_transact.specs.declared.desk_state.DeskState.{DeskState}
use Rattle.tsb_transact.specs.declared.desk_state.DeskState.TheVariants.{Normal, Transaction, Verify, Done}
use Rattle.tsb_transact.specs.declared.edit.Edit.{Edit}
use Rattle.tsb_transact.specs.Desk.{Desk}

-- the number of a station, and null where there is none
abbrev pub owner_json : Option ℕ → Json
owner_json None = null
owner_json (Some station) = number (decimal station)

-- how far a transaction is
abbrev pub state_name : DeskState → List ℕ
state_name Normal = codes "normal"
state_name Transaction = codes "transaction"
state_name Verify = codes "verify"
state_name Done = codes "done"

-- the letter K and the number of a rule, and null where none is kept
abbrev pub rule_json : Option Rule → Json
rule_json None = null
rule_json (Some r) = string (rule_name r)

-- an edit: the object, its index, and the value
abbrev pub edit_json : Edit → Json
edit_json e = object (
    member (codes "object") (string (name_of e.id.object))
    (member (codes "index") (number (decimal e.id.index))
    (member (codes "value") (number (decimal e.value))
    no_members)))

-- edits, one after another
abbrev pub edits_items : List Edit → Items
edits_items [] = no_items
edits_items (e ∷ es) = item (edit_json e) (edits_items es)

-- the desk as JSON
unfoldable pub edits_json : Desk → Json
edits_json desk = object (
    member (codes "owner") (owner_json desk.owner)
    (member (codes "state") (string (state_name desk.state))
    (member (codes "rule") (rule_json desk.rule)
    (member (codes "edits") (array (edits_items desk.edits))
    no_members))))

-- the line of the desk, without its end
unfoldable pub edits_text : Desk → List ℕ
edits_text desk = print (json_tokens (edits_json desk))
