-- The line of the desk byte by byte, and how long it is.
use Rattle.std.proofs.Common.{◌≡◌, ◌∙◌, ℕ, ◌+◌, ◌*◌, ◌<◌, ◌≤◌, ◌==◌, Bool, false, true, not, if◌then◌else◌, List, [], ◌∷◌, ◌++◌, append_assoc, length, length-append, Option, Some, None, codes, decimal, refl, sym, ap, arith, rules}
use Rattle.std.proofs.lemmas.Bool.Decides.{nat_tests}
use Rattle.std.proofs.lemmas.Fmt.{length-decimal-le}
use Rattle.std.proofs.lemmas.List.Elements.{All-head, All-tail, All-cons, All-nil}
use Rattle.std.specs.List.{All}
use Rattle.json.specs.Print.{print_from, escape, escape_byte}
use Rattle.json.specs.Token.{Token}
use Rattle.json.specs.Tree.{json_tokens, items_tokens}
use Rattle.tsb_objects.specs.tsb_rules.declared.rules.Rule.{Rule}
use Rattle.tsb_plan.specs.declared.object.Object.{Object}
use Rattle.tsb_plan.specs.Names.{name_of}
use Rattle.tsb_plan.specs.Objects.{indices, greatest, has_index}
use Rattle.tsb_plan.specs.Parts.{unless_zero}
use Rattle.tsb_plan.specs.PlanOf.{put_refusal}
use Rattle.tsb_plan.proofs.NameLemmas.{short-name}
use Rattle.tsb_plan.proofs.TableLemmas.{few-indices}
use Rattle.tsb_plan_text.specs.RuleLines.{rule_name}
use Rattle.tsb_transact.specs.declared.desk_state.DeskState.{DeskState}
use Rattle.tsb_transact.specs.declared.edit.Edit.{Edit}
use Rattle.tsb_transact.specs.Desk.{Desk}
use Rattle.tsb_status_text.specs.declared.edit_lines.TheConstants.{LONGEST_EDITS}
use Rattle.tsb_status_text.specs.Bytes.{comma, desk_bytes, edit_bytes, list_bytes, owner_bytes, rule_bytes}
use Rattle.tsb_status_text.specs.EditsLine.{edit_json, edits_items, edits_json, edits_text, owner_json, rule_json, state_name}

-- ## Names need no escape

name_plain : (o : Object) → escape (name_of o) ≡ name_of o
unfolding escape_byte
name_plain o = search rules

state_plain : (s : DeskState) → escape (state_name s) ≡ state_name s
unfolding escape_byte
state_plain s = search rules

rule_plain : (r : Rule) → escape (rule_name r) ≡ rule_name r
unfolding escape_byte
rule_plain r = search rules

-- ## Byte by byte

owner_text : (o : Option ℕ) (ts : List Token) → print_from false (json_tokens (owner_json o) ++ ts) ≡ owner_bytes o ++ print_from true ts
unfolding print_from
owner_text None ts = refl
owner_text (Some station) ts = refl

rule_text : (r : Option Rule) (ts : List Token) → print_from false (json_tokens (rule_json r) ++ ts) ≡ rule_bytes r ++ print_from true ts
unfolding print_from
rule_text None ts = refl
rule_text (Some r) ts = rw (rule_plain r) refl

edit_shape : (escaped name i v rest : List ℕ) → escaped ≡ name →
    codes "{\"object\":\"" ++ ((escaped ++ 34 ∷ []) ++ (codes ",\"index\":" ++ (i ++ (codes ",\"value\":" ++ (v ++ (125 ∷ rest))))))
    ≡ (codes "{\"object\":\"" ++ (name ++ (codes "\",\"index\":" ++ (i ++ (codes ",\"value\":" ++ (v ++ codes "}")))))) ++ rest
edit_shape escaped name i v rest e = rw e (simp append_assoc)

edit_text : (e : Edit) (first : Bool) (ts : List Token) → print_from (not first) (json_tokens (edit_json e) ++ ts) ≡ comma first ++ (edit_bytes e ++ print_from true ts)
unfolding print_from escape_byte
edit_text e true ts = edit_shape _ _ _ _ _ (name_plain e.id.object)
edit_text e false ts = ap (λ (bytes : List ℕ). 44 ∷ bytes) (edit_shape _ _ _ _ _ (name_plain e.id.object))

list_text : (es : List Edit) (first : Bool) (ts : List Token) → print_from (not first) (items_tokens (edits_items es) ++ ts) ≡ list_bytes first es ++ print_from true ts
unfolding print_from
list_text [] true ts = refl
list_text [] false ts = refl
list_text (e ∷ es) first ts =
    ap (print_from (not first)) (append_assoc (json_tokens (edit_json e)) (items_tokens (edits_items es)) ts)
    ∙ edit_text e first (items_tokens (edits_items es) ++ ts)
    ∙ ap (λ (bytes : List ℕ). comma first ++ (edit_bytes e ++ bytes)) (list_text es false ts)
    ∙ ap (λ (bytes : List ℕ). comma first ++ bytes) (sym (append_assoc (edit_bytes e) (list_bytes false es) (print_from true ts)))
    ∙ sym (append_assoc (comma first) (edit_bytes e ++ list_bytes false es) (print_from true ts))

edits_part : (es : List Edit) → print_from true (Token.key (codes "edits") ∷ ((Token.begin_array ∷ items_tokens (edits_items es)) ++ Token.end_object ∷ [])) ≡ codes ",\"edits\":[" ++ (list_bytes true es ++ codes "}")
unfolding print_from escape_byte
edits_part es = ap (λ (bytes : List ℕ). codes ",\"edits\":[" ++ bytes) (list_text es true (Token.end_object ∷ []))

state_shape : (escaped name rest : List ℕ) → escaped ≡ name → (escaped ++ 34 ∷ []) ++ (codes ",\"rule\":" ++ rest) ≡ name ++ (codes "\",\"rule\":" ++ rest)
state_shape escaped name rest e = rw e (append_assoc name (34 ∷ []) (codes ",\"rule\":" ++ rest))

pub text-bytes : (desk : Desk) → edits_text desk ≡ desk_bytes desk
unfolding edits_text edits_json print_from escape_byte
text-bytes desk =
    let last : List Token = Token.key (codes "edits") ∷ ((Token.begin_array ∷ items_tokens (edits_items desk.edits)) ++ Token.end_object ∷ []) in
    let third : List Token = Token.key (codes "rule") ∷ (json_tokens (rule_json desk.rule) ++ last) in
    let state : List ℕ → List ℕ = λ bytes. codes "{\"owner\":" ++ (owner_bytes desk.owner ++ (codes ",\"state\":\"" ++ bytes)) in
    let rule : List ℕ → List ℕ = λ bytes. state (state_name desk.state ++ (codes "\",\"rule\":" ++ bytes)) in
    ap (λ (bytes : List ℕ). codes "{\"owner\":" ++ bytes) (owner_text desk.owner (Token.key (codes "state") ∷ Token.string (state_name desk.state) ∷ third))
    ∙ ap state (state_shape _ _ (print_from false (json_tokens (rule_json desk.rule) ++ last)) (state_plain desk.state))
    ∙ ap rule (rule_text desk.rule last)
    ∙ ap (λ (bytes : List ℕ). rule (rule_bytes desk.rule ++ bytes)) (edits_part desk.edits)

-- ## How long it is

-- what an edit of a plan has: an index of at most three digits, a value of at most five
pub record IsShort (e : Edit) : Type 0 where
  pub index : e.id.index < 1000
  pub value : e.value < 100000

short_state : (s : DeskState) → length (state_name s) ≤ 11
short_state s = search rules

short_rule : (r : Option Rule) → length (rule_bytes r) ≤ 5
short_rule None = omega arith
short_rule (Some r) = let e : length (rule_name r) ≤ 3 = search rules in omega (arith, e, length-append (rule_name r) (codes "\""))

edit_room : (name i v : List ℕ) → length name ≤ 28 → length i ≤ 3 → length v ≤ 5 →
    length (codes "{\"object\":\"" ++ (name ++ (codes "\",\"index\":" ++ (i ++ (codes ",\"value\":" ++ (v ++ codes "}")))))) ≤ 67
edit_room name i v hn hi hv =
    let last : List ℕ = v ++ codes "}" in
    let third : List ℕ = codes ",\"value\":" ++ last in
    omega (arith, hn, hi, hv, length-append v (codes "}"), length-append i third, length-append name (codes "\",\"index\":" ++ (i ++ third)))

short_edit : (e : Edit) → IsShort e → length (edit_bytes e) ≤ 67
short_edit e h =
    edit_room (name_of e.id.object) (decimal e.id.index) (decimal e.value) (short-name e.id.object)
    (length-decimal-le 3 e.id.index (omega arith) (omega (arith, h.index)) (omega (arith, h.index)))
    (length-decimal-le 5 e.value (omega arith) (omega (arith, h.value)) (omega (arith, h.value)))

more_short : (es : List Edit) → All IsShort es → length (list_bytes false es) ≤ 68 * length es + 1
more_short [] h = omega arith
more_short (e ∷ es) h =
    let here = short_edit e (All-head IsShort e es h) in
    let rest = more_short es (All-tail IsShort e es h) in
    omega (arith, here, rest, length-append (edit_bytes e) (list_bytes false es))

list_short : (es : List Edit) → All IsShort es → length es ≤ 64 → length (list_bytes true es) ≤ 4352
list_short [] h few = omega arith
list_short (e ∷ es) h few =
    let here = short_edit e (All-head IsShort e es h) in
    let rest = more_short es (All-tail IsShort e es h) in
    omega (arith, here, rest, few, length-append (edit_bytes e) (list_bytes false es))

line_room : (owner state rule list : List ℕ) → length owner ≤ 4 → length state ≤ 11 → length rule ≤ 5 → length list ≤ 4352 →
    length (codes "{\"owner\":" ++ (owner ++ (codes ",\"state\":\"" ++ (state ++ (codes "\",\"rule\":" ++ (rule ++ (codes ",\"edits\":[" ++ (list ++ codes "}")))))))) ≤ LONGEST_EDITS
line_room owner state rule list ho hs hr hl =
    let fourth : List ℕ = codes ",\"edits\":[" ++ (list ++ codes "}") in
    let third : List ℕ = codes "\",\"rule\":" ++ (rule ++ fourth) in
    let second : List ℕ = codes ",\"state\":\"" ++ (state ++ third) in
    omega (arith, ho, hs, hr, hl, length-append list (codes "}"), length-append rule fourth, length-append state third, length-append owner second)

pub line-short : (desk : Desk) → length (owner_bytes desk.owner) ≤ 4 → All IsShort desk.edits → length desk.edits ≤ 64 → length (desk_bytes desk) ≤ LONGEST_EDITS
line-short desk owner each few =
    line_room (owner_bytes desk.owner) (state_name desk.state) (rule_bytes desk.rule) (list_bytes true desk.edits) owner (short_state desk.state) (short_rule desk.rule) (list_short desk.edits each few)

-- ## Edits of a desk

-- no object has greater values than 16 bits hold
pub greatest_small : (o : Object) → greatest o ≤ 65535
greatest_small o = search rules

short_taken : (e : Edit) → put_refusal e.id e.value ≡ None → IsShort e
short_taken e taken =
    let has : has_index e.id.object e.id.index ≡ true = grind (arith, taken) in
    let to : e.id.index ≤ indices e.id.object = grind (arith, nat_tests, has) in
    let most : e.value ≤ greatest e.id.object = grind (arith, nat_tests, taken) in
    record { index = omega (arith, to, few-indices e.id.object); value = omega (arith, most, greatest_small e.id.object) }

pub all-short : (es : List Edit) → All (λ e. put_refusal e.id e.value ≡ None) es → All IsShort es
all-short [] h = All-nil IsShort
all-short (e ∷ es) h =
    All-cons IsShort e es (short_taken e (All-head (λ f. put_refusal f.id f.value ≡ None) e es h)) (all-short es (All-tail (λ f. put_refusal f.id f.value ≡ None) e es h))

pub owner-short : (n : ℕ) → n ≤ 4 → length (owner_bytes (unless_zero n)) ≤ 4
owner-short n few = go (n == 0)
  where
    go : (b : Bool) → length (owner_bytes (if b then None else Some n)) ≤ 4
    go true = omega arith
    go false = let digits : length (decimal n) ≤ 1 = length-decimal-le 1 n (omega arith) (omega (arith, few)) (omega (arith, few)) in omega (arith, digits)
