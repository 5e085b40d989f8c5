-- The line of a plan is JSON: its numbers are, it nests two deep, its bytes are UTF-8, and it is short.
use Rattle.std.proofs.Common.{◌≡◌, ◌∙◌, ℕ, zero, suc, ◌+◌, ◌*◌, ◌<◌, ◌≤◌, ◌==◌, ◌&&◌, Bool, true, false, cond, List, [], ◌∷◌, ◌++◌, append-nil, length, length-append, if◌then◌else◌, nat_lt, option_and_then, codes, decimal, refl, sym, ap, arith, rules}
use Rattle.std.proofs.lemmas.Fmt.{IsAscii-decimal, length-decimal-le}
use Rattle.std.proofs.lemmas.Str.{IsUtf8-append, IsUtf8-from_ascii, IsUtf8-nil}
use Rattle.std.specs.Bool.{⊤}
use Rattle.std.specs.Prelude.{IsUtf8}
use Rattle.json.specs.Json as json
use Rattle.json.specs.Json.{Members, no_members, member, number, object}
use Rattle.json.specs.Lex.{tokens}
use Rattle.json.specs.Print.{print, print_from, token_text, separator, begins, ends, escape, escape_byte, escape_letter}
use Rattle.json.specs.Token.{Token}
use Rattle.json.specs.Tree.{json_tokens, members_tokens, depth, members_depth, HasNumbers, MembersHaveNumbers, room}
use Rattle.json.proofs.Printed.Decimals.{IsNumber-decimal}
use Rattle.json.proofs.Printed.Tokens.{tokens-print}
use Rattle.json.proofs.Printed.Trees.{ArePrintable-json_tokens, value-json_tokens, room-append}
use Rattle.json.proofs.Printed.Utf8.{are_ascii, IsUtf8-are_ascii, IsUtf8-key, IsUtf8-separator}
use Rattle.serde_json.specs.Read.{read, max_depth, of_json}
use Rattle.tsb_objects.specs.tsb_types.Lists.{run_from}
use Rattle.tsb_plan.proofs.NameLemmas.{short-name}
use Rattle.tsb_plan.proofs.TableLemmas.{few-indices, length-objects}
use Rattle.tsb_plan.specs.declared.object.Object.{Object}
use Rattle.tsb_plan.specs.declared.version.Version.{Version}
use Rattle.tsb_plan.specs.declared.version.Version.TheVariants.{One, Two, Three}
use Rattle.tsb_plan.specs.Names.{name_of}
use Rattle.tsb_plan.specs.Objects.{objects, indices}
use Rattle.tsb_plan.specs.Plan.{Plan}
use Rattle.tsb_plan.specs.Versions.{number_of}
use Rattle.tsb_status_text.specs.PlanLine.{entries, is_all_zeros, members_of, plan_json, plan_text, table, version_for, with_object}

-- each value has at most 16 bits
abbrev pub AreSmall : Plan → Type 0
AreSmall plan = (o : Object) (i : ℕ) → plan.value o i < 65536

pub few_versions : (v : Version) → number_of v ≤ 3
few_versions One = omega arith
few_versions Two = omega arith
few_versions Three = omega arith

name_ascii : (o : Object) → are_ascii (name_of o) ≡ true
name_ascii o = search rules

-- ## Numbers

entry_or : (b : Bool) (i v : ℕ) (rest : Members) → v < 65536 → MembersHaveNumbers rest → MembersHaveNumbers (if b then rest else member (decimal i) (number (decimal v)) rest)
entry_or true i v rest small h = h
entry_or false i v rest small h = (IsNumber-decimal v (omega (arith, small)), h)

entries_numbers : (plan : Plan) → AreSmall plan → (o : Object) (is : List ℕ) → MembersHaveNumbers (entries plan o is)
entries_numbers plan small o [] = tt
entries_numbers plan small o (i ∷ is) = entry_or (plan.value o i == 0) i (plan.value o i) (entries plan o is) (small o i) (entries_numbers plan small o is)

table_numbers : (plan : Plan) → AreSmall plan → (o : Object) → MembersHaveNumbers (table plan o)
unfolding table
table_numbers plan small o = entries_numbers plan small o (run_from 1 (indices o))

object_or : (b : Bool) (k : List ℕ) (ms rest : Members) → MembersHaveNumbers ms → MembersHaveNumbers rest → MembersHaveNumbers (if b then rest else member k (object ms) rest)
object_or true k ms rest hm h = h
object_or false k ms rest hm h = (hm, h)

members_numbers : (plan : Plan) → AreSmall plan → (os : List Object) → MembersHaveNumbers (members_of plan os)
unfolding with_object
members_numbers plan small [] = tt
members_numbers plan small (o ∷ os) = object_or (is_all_zeros plan o) (name_of o) (table plan o) (members_of plan os) (table_numbers plan small o) (members_numbers plan small os)

plan_numbers : (plan : Plan) → AreSmall plan → HasNumbers (plan_json plan)
unfolding plan_json
plan_numbers plan small = (IsNumber-decimal (number_of (version_for plan)) (omega (arith, few_versions (version_for plan))), members_numbers plan small objects)

-- ## How deep it nests

entry_deep : (b : Bool) (i v : ℕ) (rest : Members) → members_depth rest ≡ 0 → members_depth (if b then rest else member (decimal i) (number (decimal v)) rest) ≡ 0
entry_deep true i v rest h = h
entry_deep false i v rest h = omega (arith, h)

entries_deep : (plan : Plan) (o : Object) (is : List ℕ) → members_depth (entries plan o is) ≡ 0
entries_deep plan o [] = refl
entries_deep plan o (i ∷ is) = entry_deep (plan.value o i == 0) i (plan.value o i) (entries plan o is) (entries_deep plan o is)

table_deep : (plan : Plan) (o : Object) → members_depth (table plan o) ≡ 0
unfolding table
table_deep plan o = entries_deep plan o (run_from 1 (indices o))

object_deep : (b : Bool) (k : List ℕ) (ms rest : Members) → members_depth ms ≡ 0 → members_depth rest ≤ 1 → members_depth (if b then rest else member k (object ms) rest) ≤ 1
object_deep true k ms rest hm h = h
object_deep false k ms rest hm h = omega (arith, hm, h)

members_deep : (plan : Plan) (os : List Object) → members_depth (members_of plan os) ≤ 1
unfolding with_object
members_deep plan [] = omega arith
members_deep plan (o ∷ os) = object_deep (is_all_zeros plan o) (name_of o) (table plan o) (members_of plan os) (table_deep plan o) (members_deep plan os)

plan_deep : (plan : Plan) → depth (plan_json plan) ≤ 2
unfolding plan_json
plan_deep plan = omega (arith, members_deep plan objects)

-- ## Its value

-- the line is read as the JSON that was printed
pub read_text : (plan : Plan) → AreSmall plan → read (plan_text plan) ≡ of_json (plan_json plan)
unfolding plan_text
read_text plan small =
    let j = plan_json plan in
    let printed : tokens (print (json_tokens j)) ≡ json_tokens j ++ [] = tokens-print (json_tokens j) (ArePrintable-json_tokens j (plan_numbers plan small)) ∙ sym (append-nil (json_tokens j)) in
    ap (λ (ts : List Token). option_and_then of_json (option_and_then (λ p. json.if_last p.0 p.1) (json.value max_depth ts))) printed
    ∙ ap (λ r. option_and_then of_json (option_and_then (λ p. json.if_last p.0 p.1) r)) (value-json_tokens j max_depth [] (omega (arith, plan_deep plan)))

-- ## Its bytes

abbrev AreUtf8 : List Token → Type 0
AreUtf8 [] = ⊤
AreUtf8 (t ∷ ts) = IsUtf8 (token_text t) × AreUtf8 ts

utf8_append : (ts us : List Token) → AreUtf8 ts → AreUtf8 us → AreUtf8 (ts ++ us)
utf8_append [] us h k = k
utf8_append (t ∷ ts) us h k = (h.0, utf8_append ts us h.1 k)

print_utf8 : (c : Bool) (ts : List Token) → AreUtf8 ts → IsUtf8 (print_from c ts)
unfolding print_from
print_utf8 c [] h = IsUtf8-nil
print_utf8 c (t ∷ ts) h = IsUtf8-append _ _ (IsUtf8-separator c t) (IsUtf8-append _ _ h.0 (print_utf8 (ends t) ts h.1))

decimal_utf8 : (n : ℕ) → n < 65536 → IsUtf8 (decimal n)
decimal_utf8 n small = IsUtf8-from_ascii (decimal n) (IsAscii-decimal n (omega (arith, small)))

closing_utf8 : AreUtf8 (members_tokens no_members)
closing_utf8 = (IsUtf8-are_ascii (125 ∷ []) refl, tt)

opening_utf8 : IsUtf8 (token_text Token.begin_object)
opening_utf8 = IsUtf8-are_ascii (123 ∷ []) refl

entry_utf8 : (b : Bool) (i v : ℕ) (rest : Members) → i < 65536 → v < 65536 → AreUtf8 (members_tokens rest) →
    AreUtf8 (members_tokens (if b then rest else member (decimal i) (number (decimal v)) rest))
entry_utf8 true i v rest hi hv h = h
entry_utf8 false i v rest hi hv h = (IsUtf8-key (decimal i) (decimal_utf8 i hi), (decimal_utf8 v hv, h))

entries_utf8 : (plan : Plan) → AreSmall plan → (o : Object) (a n : ℕ) → a + n ≤ 1000 → AreUtf8 (members_tokens (entries plan o (run_from a n)))
unfolding run_from
entries_utf8 plan small o a zero le = closing_utf8
entries_utf8 plan small o a (suc n) le =
    entry_utf8 (plan.value o a == 0) a (plan.value o a) (entries plan o (run_from (a + 1) n)) (omega (arith, le)) (small o a) (entries_utf8 plan small o (a + 1) n (omega (arith, le)))

table_utf8 : (plan : Plan) → AreSmall plan → (o : Object) → AreUtf8 (members_tokens (table plan o))
unfolding table
table_utf8 plan small o = entries_utf8 plan small o 1 (indices o) (omega (arith, few-indices o))

object_utf8 : (b : Bool) (k : List ℕ) (ms rest : Members) → IsUtf8 k → AreUtf8 (members_tokens ms) → AreUtf8 (members_tokens rest) →
    AreUtf8 (members_tokens (if b then rest else member k (object ms) rest))
object_utf8 true k ms rest hk hm h = h
object_utf8 false k ms rest hk hm h = (IsUtf8-key k hk, (opening_utf8, utf8_append (members_tokens ms) (members_tokens rest) hm h))

members_utf8 : (plan : Plan) → AreSmall plan → (os : List Object) → AreUtf8 (members_tokens (members_of plan os))
unfolding with_object
members_utf8 plan small [] = closing_utf8
members_utf8 plan small (o ∷ os) =
    object_utf8 (is_all_zeros plan o) (name_of o) (table plan o) (members_of plan os) (IsUtf8-are_ascii (name_of o) (name_ascii o)) (table_utf8 plan small o) (members_utf8 plan small os)

pub text_utf8 : (plan : Plan) → AreSmall plan → IsUtf8 (plan_text plan)
unfolding plan_text plan_json
text_utf8 plan small =
    print_utf8 false (json_tokens (plan_json plan))
    (opening_utf8, (IsUtf8-key (codes "version") (IsUtf8-are_ascii (codes "version") refl), (decimal_utf8 (number_of (version_for plan)) (omega (arith, few_versions (version_for plan))), members_utf8 plan small objects)))

-- ## Its length

comma_room : (b : Bool) → length {A = ℕ} (cond b (44 ∷ []) []) ≤ 1
comma_room true = omega arith
comma_room false = omega arith

print_room : (c : Bool) (ts : List Token) → length (print_from c ts) ≤ room ts
unfolding print_from
print_room c [] = omega arith
print_room c (t ∷ ts) =
    let comma : length (separator c t) ≤ 1 = comma_room (c && begins t) in
    let rest = print_room (ends t) ts in
    omega (arith, comma, rest, length-append (separator c t) (token_text t ++ print_from (ends t) ts), length-append (token_text t) (print_from (ends t) ts))

byte_room : (short low : Bool) (a b c x : ℕ) → length {A = ℕ} (cond short (92 ∷ a ∷ []) (cond low (92 ∷ 117 ∷ 48 ∷ 48 ∷ b ∷ c ∷ []) (x ∷ []))) ≤ 6
byte_room true low a b c x = omega arith
byte_room false true a b c x = omega arith
byte_room false false a b c x = omega arith

escape_byte_room : (x : ℕ) → length (escape_byte x) ≤ 6
unfolding escape_byte
escape_byte_room x = byte_room (nat_lt 0 (escape_letter x)) (nat_lt x 32) _ _ _ x

escape_room : (s : List ℕ) → length (escape s) ≤ 6 * length s
escape_room [] = omega arith
escape_room (x ∷ s) = omega (arith, escape_byte_room x, escape_room s, length-append (escape_byte x) (escape s))

key_room : (s : List ℕ) → length (token_text (Token.key s)) ≤ 6 * length s + 3
key_room s = omega (arith, escape_room s, length-append (escape s) (34 ∷ []), length-append (escape s ++ 34 ∷ []) (58 ∷ []))

entry_room : (b : Bool) (i v : ℕ) (rest : Members) → i < 1000 → v < 65536 →
    room (members_tokens (if b then rest else member (decimal i) (number (decimal v)) rest)) ≤ 30 + room (members_tokens rest)
entry_room true i v rest hi hv = omega arith
entry_room false i v rest hi hv =
    let digits : length (decimal i) ≤ 3 = length-decimal-le 3 i (omega arith) (omega (arith, hi)) (omega (arith, hi)) in
    let more : length (decimal v) ≤ 5 = length-decimal-le 5 v (omega arith) (omega (arith, hv)) (omega (arith, hv)) in
    omega (arith, key_room (decimal i), digits, more)

entries_room : (plan : Plan) → AreSmall plan → (o : Object) (a n : ℕ) → a + n ≤ 1000 → room (members_tokens (entries plan o (run_from a n))) ≤ 30 * n + 2
unfolding run_from
entries_room plan small o a zero le = omega arith
entries_room plan small o a (suc n) le =
    let rest = entries_room plan small o (a + 1) n (omega (arith, le)) in
    let here = entry_room (plan.value o a == 0) a (plan.value o a) (entries plan o (run_from (a + 1) n)) (omega (arith, le)) (small o a) in
    omega (arith, rest, here)

table_room : (plan : Plan) → AreSmall plan → (o : Object) → room (members_tokens (table plan o)) ≤ 7682
unfolding table
table_room plan small o = omega (arith, few-indices o, entries_room plan small o 1 (indices o) (omega (arith, few-indices o)))

object_room : (b : Bool) (k : List ℕ) (ms rest : Members) → length k ≤ 28 → room (members_tokens ms) ≤ 7682 →
    room (members_tokens (if b then rest else member k (object ms) rest)) ≤ 7940 + room (members_tokens rest)
object_room true k ms rest hk hm = omega arith
object_room false k ms rest hk hm = omega (arith, hk, hm, key_room k, room-append (members_tokens ms) (members_tokens rest))

members_room : (plan : Plan) → AreSmall plan → (os : List Object) → room (members_tokens (members_of plan os)) ≤ 7940 * length os + 2
unfolding with_object
members_room plan small [] = omega arith
members_room plan small (o ∷ os) =
    let here = object_room (is_all_zeros plan o) (name_of o) (table plan o) (members_of plan os) (short-name o) (table_room plan small o) in
    omega (arith, here, members_room plan small os)

version_room : (n : ℕ) → n ≤ 3 → room (Token.begin_object ∷ Token.key (codes "version") ∷ Token.number (decimal n) ∷ []) ≤ 100
version_room n few =
    let digits : length (decimal n) ≤ 1 = length-decimal-le 1 n (omega arith) (omega (arith, few)) (omega (arith, few)) in
    omega (arith, digits, key_room (codes "version"))

pub text_short : (plan : Plan) → AreSmall plan → length (plan_text plan) ≤ 1048576
unfolding plan_text plan_json
text_short plan small =
    let whole = print_room false (json_tokens (plan_json plan)) in
    let version = version_room (number_of (version_for plan)) (few_versions (version_for plan)) in
    omega (arith, whole, version, members_room plan small objects, length-objects)
