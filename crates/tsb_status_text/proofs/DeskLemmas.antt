-- The line of the desk is JSON, and tells desks apart.
use Rattle.std.proofs.Common.{◌≡◌, ◌∙◌, ℕ, ◌≤◌, List, [], ◌∷◌, Option, Some, None, IfSome, decimal, refl, sym, ap, arith, rules}
use Rattle.std.proofs.lemmas.Fmt.{decimal_injective}
use Rattle.std.proofs.lemmas.List.Elements.{All-head, All-tail}
use Rattle.std.proofs.lemmas.Option.{same_Some}
use Rattle.std.specs.List.{All}
use Rattle.json.specs.Json.{Json, null, boolean, number, string, array, object, Items, no_items, item, Members, no_members, member, document}
use Rattle.json.specs.Tree.{depth, items_depth, HasNumbers, ItemsHaveNumbers}
use Rattle.json.proofs.Printed.Decimals.{IsNumber-decimal}
use Rattle.json.proofs.Printed.Trees.{document-print}
use Rattle.tsb_objects.specs.tsb_rules.declared.rules.Rule.{Rule}
use Rattle.tsb_plan.proofs.NameLemmas.{names-apart}
use Rattle.tsb_plan.specs.declared.object.Object.{Object}
use Rattle.tsb_plan.specs.Names.{name_of}
use Rattle.tsb_plan_text.specs.RuleLines.{rule_name}
use Rattle.tsb_transact.specs.declared.desk_state.DeskState.{DeskState}
use Rattle.tsb_transact.specs.declared.edit.Edit.{Edit}
use Rattle.tsb_transact.specs.Desk.{Desk}
use Rattle.tsb_transact.specs.Laws.{IsInRange}
use Rattle.tsb_status_text.specs.EditsLine.{edit_json, edits_items, edits_json, edits_text, owner_json, rule_json, state_name}
use Rattle.tsb_status_text.specs.Laws.{AreTheirJson, TellDesksApart}
use Rattle.tsb_status_text.proofs.TextLemmas.{IsShort, all-short}

-- ## Its value

owner_number : (o : Option ℕ) → IfSome o (λ s. (1 ≤ s) × (s ≤ 4)) → HasNumbers (owner_json o)
owner_number None h = tt
owner_number (Some s) h = IsNumber-decimal s (omega (arith, h.1))

rule_number : (r : Option Rule) → HasNumbers (rule_json r)
rule_number None = tt
rule_number (Some r) = tt

edits_numbers : (es : List Edit) → All IsShort es → ItemsHaveNumbers (edits_items es)
edits_numbers [] h = tt
edits_numbers (e ∷ es) h =
    let short = All-head IsShort e es h in
    ((tt, (IsNumber-decimal e.id.index (omega (arith, short.index)), (IsNumber-decimal e.value (omega (arith, short.value)), tt))), edits_numbers es (All-tail IsShort e es h))

desk_numbers : (desk : Desk) → IsInRange desk → HasNumbers (edits_json desk)
unfolding edits_json
desk_numbers desk h = (owner_number desk.owner h.owner, (tt, (rule_number desk.rule, (edits_numbers desk.edits (all-short desk.edits h.sound.taken), tt))))

owner_flat : (o : Option ℕ) → depth (owner_json o) ≡ 0
owner_flat None = refl
owner_flat (Some s) = refl

rule_flat : (r : Option Rule) → depth (rule_json r) ≡ 0
rule_flat None = refl
rule_flat (Some r) = refl

edits_deep : (es : List Edit) → items_depth (edits_items es) ≤ 1
edits_deep [] = omega arith
edits_deep (e ∷ es) = omega (arith, edits_deep es)

desk_deep : (desk : Desk) → depth (edits_json desk) ≤ 3
unfolding edits_json
desk_deep desk = omega (arith, owner_flat desk.owner, rule_flat desk.rule, edits_deep desk.edits)

pub their_json : AreTheirJson
unfolding edits_text
their_json desk h = document-print (edits_json desk) (desk_numbers desk h) (omega (arith, desk_deep desk))

-- ## Apart

abbrev members_in : Json → Members
members_in (object ms) = ms
members_in null = no_members
members_in (boolean b) = no_members
members_in (number s) = no_members
members_in (string s) = no_members
members_in (array js) = no_members

abbrev items_in : Json → Items
items_in (array js) = js
items_in null = no_items
items_in (boolean b) = no_items
items_in (number s) = no_items
items_in (string s) = no_items
items_in (object ms) = no_items

abbrev text_in : Json → List ℕ
text_in (string s) = s
text_in (number s) = s
text_in null = []
text_in (boolean b) = []
text_in (array js) = []
text_in (object ms) = []

-- 0 for null
abbrev rank : Json → ℕ
rank null = 0
rank (string s) = 1
rank (number s) = 1
rank (boolean b) = 1
rank (array js) = 1
rank (object ms) = 1

abbrev first_in : Members → Json
first_in no_members = null
first_in (member k j ms) = j

abbrev rest_in : Members → Members
rest_in no_members = no_members
rest_in (member k j ms) = ms

abbrev item_in : Items → Json
item_in no_items = null
item_in (item j js) = j

abbrev items_after : Items → Items
items_after no_items = no_items
items_after (item j js) = js

owner_apart : (a b : Option ℕ) → IfSome a (λ s. (1 ≤ s) × (s ≤ 4)) → IfSome b (λ s. (1 ≤ s) × (s ≤ 4)) → owner_json a ≡ owner_json b → a ≡ b
owner_apart None None ha hb e = refl
owner_apart None (Some t) ha hb e = let none : 0 ≡ 1 = ap rank e in absurd (omega (arith, none))
owner_apart (Some s) None ha hb e = let none : 1 ≡ 0 = ap rank e in absurd (omega (arith, none))
owner_apart (Some s) (Some t) ha hb e = ap Some (decimal_injective s t (omega (arith, ha.1)) (omega (arith, hb.1)) (ap text_in e))

state_apart : (a b : DeskState) → state_name a ≡ state_name b → a ≡ b
state_apart a b e = search rules

name_apart : (a b : Rule) → rule_name a ≡ rule_name b → a ≡ b
name_apart a b e = search rules

rule_apart : (a b : Option Rule) → rule_json a ≡ rule_json b → a ≡ b
rule_apart None None e = refl
rule_apart None (Some s) e = let none : 0 ≡ 1 = ap rank e in absurd (omega (arith, none))
rule_apart (Some r) None e = let none : 1 ≡ 0 = ap rank e in absurd (omega (arith, none))
rule_apart (Some r) (Some s) e = ap Some (name_apart r s (ap text_in e))

edit_from : (a b : Edit) → a.id.object ≡ b.id.object → a.id.index ≡ b.id.index → a.value ≡ b.value → a ≡ b
edit_from a b same index value =
    let made : Object → ℕ → ℕ → Edit = λ o i v. record { id = record { object = o; index = i }; value = v } in
    ap (λ (o : Object). made o a.id.index a.value) same ∙ ap (λ (i : ℕ). made b.id.object i a.value) index ∙ ap (made b.id.object b.id.index) value

edit_apart : (a b : Edit) → IsShort a → IsShort b → edit_json a ≡ edit_json b → a ≡ b
edit_apart a b ha hb e =
    let name : name_of a.id.object ≡ name_of b.id.object = ap (λ (j : Json). text_in (first_in (members_in j))) e in
    let index : decimal a.id.index ≡ decimal b.id.index = ap (λ (j : Json). text_in (first_in (rest_in (members_in j)))) e in
    let value : decimal a.value ≡ decimal b.value = ap (λ (j : Json). text_in (first_in (rest_in (rest_in (members_in j))))) e in
    edit_from a b (names-apart a.id.object b.id.object name)
    (decimal_injective a.id.index b.id.index (omega (arith, ha.index)) (omega (arith, hb.index)) index)
    (decimal_injective a.value b.value (omega (arith, ha.value)) (omega (arith, hb.value)) value)

edits_apart : (xs ys : List Edit) → All IsShort xs → All IsShort ys → edits_items xs ≡ edits_items ys → xs ≡ ys
edits_apart [] [] hx hy e = refl
edits_apart [] (y ∷ ys) hx hy e = let none : 0 ≡ 1 = ap (λ (js : Items). rank (item_in js)) e in absurd (omega (arith, none))
edits_apart (x ∷ xs) [] hx hy e = let none : 1 ≡ 0 = ap (λ (js : Items). rank (item_in js)) e in absurd (omega (arith, none))
edits_apart (x ∷ xs) (y ∷ ys) hx hy e =
    let first = edit_apart x y (All-head IsShort x xs hx) (All-head IsShort y ys hy) (ap item_in e) in
    let rest = edits_apart xs ys (All-tail IsShort x xs hx) (All-tail IsShort y ys hy) (ap items_after e) in
    ap (λ (z : Edit). z ∷ xs) first ∙ ap (λ (zs : List Edit). y ∷ zs) rest

desk_from : (a b : Desk) → a.owner ≡ b.owner → a.state ≡ b.state → a.rule ≡ b.rule → a.edits ≡ b.edits → a ≡ b
desk_from a b owner state rule edits =
    let made : Option ℕ → DeskState → Option Rule → List Edit → Desk = λ o s r es. record { owner = o; state = s; rule = r; edits = es } in
    ap (λ (o : Option ℕ). made o a.state a.rule a.edits) owner
    ∙ ap (λ (s : DeskState). made b.owner s a.rule a.edits) state
    ∙ ap (λ (r : Option Rule). made b.owner b.state r a.edits) rule
    ∙ ap (made b.owner b.state b.rule) edits

-- the members after the first
abbrev later : Json → Members
later j = rest_in (members_in j)

json_apart : (a b : Desk) → IsInRange a → IsInRange b → edits_json a ≡ edits_json b → a ≡ b
unfolding edits_json
json_apart a b ha hb e =
    desk_from a b
    (owner_apart a.owner b.owner ha.owner hb.owner (ap (λ (j : Json). first_in (members_in j)) e))
    (state_apart a.state b.state (ap (λ (j : Json). text_in (first_in (later j))) e))
    (rule_apart a.rule b.rule (ap (λ (j : Json). first_in (rest_in (later j))) e))
    (edits_apart a.edits b.edits (all-short a.edits ha.sound.taken) (all-short b.edits hb.sound.taken)
    (ap (λ (j : Json). items_in (first_in (rest_in (rest_in (later j))))) e))

pub desks_apart : TellDesksApart
desks_apart a b ha hb same = json_apart a b ha hb (same_Some (edits_json a) (edits_json b) (sym (their_json a ha) ∙ ap document same ∙ their_json b hb))
