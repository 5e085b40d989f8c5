-- A plan that was read says what its text says.
use Rattle.std.proofs.Common.{IfOk, length, nat_lt, ◌≡◌, ◌≢◌, ℕ, ◌≤◌, Bool, true, false, List, Option, Some, None, option_and_then, Result, Ok, Err, if◌then◌else◌, ◌||◌, bytes_eq, codes, nat_le, Ordering, Less, Equal, Greater, is_eq, nat_cmp, arith, rules, sym, ◌∙◌, ap, subst, refl, inl, inr}
use Rattle.std.proofs.lemmas.Bool.{cases_Bool}
use Rattle.std.proofs.lemmas.Bool.Decides.{nat_tests}
use Rattle.std.proofs.lemmas.Fmt.{decimal_injective}
use Rattle.std.proofs.lemmas.Map.Text.{is_eq-slice_cmp}
use Rattle.std.proofs.lemmas.Option.{same_Some}
use Rattle.std.proofs.lemmas.Slice.Eq.{bytes_eq-Decides}
use Rattle.std.specs.Cmp.Lexicographic.{slice_cmp}
use Rattle.std.specs.Fmt.{decimal}
use Rattle.std.specs.Ordering.{match_ordering}
use Rattle.serde_json.specs.Data.{Data, null, boolean, number, string, array, object, Members, no_members, member}
use Rattle.serde_json.specs.Find.{get_member, as_object, as_str}
use Rattle.tsb_plan.proofs.NameLemmas.{named_exact, names-apart}
use Rattle.tsb_plan.proofs.TableLemmas.{order-injective}
use Rattle.tsb_plan.specs.declared.object.Object.{Object}
use Rattle.tsb_plan.specs.declared.version.Version.{Version}
use Rattle.tsb_plan.specs.declared.version.Version.TheVariants.{One, Two, Three}
use Rattle.tsb_plan.specs.Names.{name_of, object_named}
use Rattle.tsb_plan.specs.Plan.{Plan, empty, with_value, is_same}
use Rattle.tsb_plan.specs.VersionLaws.{TranslateApart}
use Rattle.tsb_plan.specs.Versions.{has_object, has_index_in, indices_in, greatest_in, translated}
use Rattle.tsb_objects.specs.tsb_types.Lists.{or_number}
use Rattle.tsb_plan_text.proofs.NumberLemmas.{index_named_is}
use Rattle.tsb_plan_text.proofs.RiseLemmas.{IsBefore, Rise, RiseIn, AllRise, read_all_rise}
use Rattle.tsb_plan_text.proofs.TextLemmas.{read_of_data}
use Rattle.tsb_plan_text.proofs.TableLemmas.{few_indices}
use Rattle.tsb_objects.specs.tsb_rules.Rules.{first_broken}
use Rattle.tsb_objects.specs.Checked.{checked_plan}
use Rattle.tsb_objects.specs.declared.checked.Checked.{Checked}
use Rattle.tsb_objects.specs.tsb_rules.declared.rules.Rule.{Rule}
use Rattle.tsb_plan_text.specs.declared.error.PlanError.{PlanError}
use Rattle.tsb_plan_text.specs.PlanErrors.{Gives, Error, not_json, not_a_table, no_version, too_large, no_such_object, object_not_a_table, no_such_index, not_a_whole_number, out_of_range, notes_not_a_table, note_not_a_text}
use Rattle.tsb_plan_text.specs.PlanText.{limit, data_of, version_in, data_plan, unless_broken, checked, reading, or_fault, then_on, index_named, whole_number, with_entry, with_table, with_object, is_notes, noted, with_notes, with_member, with_members}
use Rattle.tsb_plan_text.specs.PlanTextSays.{number_at, number_for, SaysThese, Says}

-- ---- what was accepted

pub or_ok : {A : Type 0} (o : Option A) (f : Error) (next : A → Result Plan Error) (q : Plan) → or_fault o f next ≡ Ok q → (x : A) × (o ≡ Some x) × (next x ≡ Ok q)
or_ok None f next q e = absurd (grind (arith, e))
or_ok (Some x) f next q e = (x, refl, e)

pub then_ok : (r : Result Plan Error) (next : Plan → Result Plan Error) (q : Plan) → then_on r next ≡ Ok q → (p : Plan) × (r ≡ Ok p) × (next p ≡ Ok q)
then_ok (Err f) next q e = absurd (grind (arith, e))
then_ok (Ok p) next q e = (p, refl, e)

pub if_ok : (b : Bool) (p q : Plan) (f : Error) → (if b then Ok p else Err f) ≡ Ok q → p ≡ q
if_ok true p q f e = grind (arith, e)
if_ok false p q f e = absurd (grind (arith, e))

record Entered (v : Version) (o : Object) (text : List ℕ) (d : Data) (p q : Plan) : Type 0 where
  index : ℕ
  value : ℕ
  low : 1 ≤ index
  high : index ≤ indices_in v o
  spelt : decimal index ≡ text
  whole : whole_number d ≡ Some value
  made : with_value p o (translated v o index) value ≡ q

entered : (v : Version) (o : Object) (text : List ℕ) (d : Data) (p q : Plan) → with_entry v o text d p ≡ Ok q → Entered v o text d p q
unfolding with_entry
entered v o text d p q e =
    let i = or_ok (index_named (indices_in v o) text) (no_such_index o text) _ q e in
    let n = or_ok (whole_number d) (not_a_whole_number o text) _ q i.2 in
    let is = index_named_is (indices_in v o) text i.0 i.1 in
    record { index = i.0; value = n.0; low = is.0; high = is.1; spelt = is.2; whole = n.1; made = if_ok (nat_le n.0 (greatest_in v o)) _ q (out_of_range o text) n.2 }

-- ---- look-ups

get_here : (k : List ℕ) (d : Data) (ms : Members) (l : List ℕ) → k ≡ l → get_member k (member l d ms) ≡ Some d
get_here k d ms l e = go (slice_cmp nat_cmp k l) (is_eq-slice_cmp k l ∙ (bytes_eq-Decides k l).1 e)
  where
    go : (r : Ordering) → is_eq r ≡ true → match_ordering r (get_member k ms) (Some d) (get_member k ms) ≡ Some d
    go Less h = absurd (grind (arith, h))
    go Equal h = refl
    go Greater h = absurd (grind (arith, h))

get_later : (k : List ℕ) (d : Data) (ms : Members) (l : List ℕ) → k ≢ l → get_member k (member l d ms) ≡ get_member k ms
get_later k d ms l ne = go (slice_cmp nat_cmp k l) (λ e. ne ((bytes_eq-Decides k l).0 (sym (is_eq-slice_cmp k l) ∙ e)))
  where
    go : (r : Ordering) → is_eq r ≢ true → match_ordering r (get_member k ms) (Some d) (get_member k ms) ≡ get_member k ms
    go Less h = refl
    go Equal h = absurd (h refl)
    go Greater h = refl

get_before : (k : List ℕ) (ms : Members) → IsBefore k ms → get_member k ms ≡ None
get_before k no_members h = refl
get_before k (member l d ms) h = rw h.0 (get_before k ms h.1)

-- ---- one value

value_here : (p : Plan) (o : Object) (i n : ℕ) → (with_value p o i n).value o i ≡ n
value_here p o i n = grind (arith, nat_tests)

value_apart : (p : Plan) (o : Object) (i n : ℕ) (s : Object) (k : ℕ) → (o ≡ s → i ≡ k → ⊥) → (with_value p o i n).value s k ≡ p.value s k
value_apart p o i n s k ne =
    elim (cases_Bool (is_same o i s k)) [
      | inl same ↦ absurd (ne (order-injective o s (grind (arith, nat_tests, same))) (grind (arith, nat_tests, same)))
      | inr other ↦ rw other refl
    ]

has_index : (v : Version) (o : Object) (i : ℕ) → has_object v o ≡ true → 1 ≤ i → i ≤ indices_in v o → has_index_in v o i ≡ true
has_index v o i has low high = grind (arith, nat_tests, has, low, high)

has_of : (v : Version) (o : Object) (i : ℕ) → has_index_in v o i ≡ true → (has_object v o ≡ true) × (i ≤ indices_in v o)
has_of v o i e = (grind (arith, nat_tests, e), grind (arith, nat_tests, e))

one_index : (v : Version) (o : Object) (i j : ℕ) → i ≤ indices_in v o → j ≤ indices_in v o → decimal i ≡ decimal j → i ≡ j
one_index v o i j hi hj e =
    let few = few_indices v o in
    decimal_injective i j (omega (arith, few, hi)) (omega (arith, few, hj)) e

-- ---- a table

or_some : (o : Option ℕ) (n d : ℕ) → o ≡ Some n → or_number o d ≡ n
or_some o n d e = rw e refl

or_none : (o : Option ℕ) (d : ℕ) → o ≡ None → or_number o d ≡ d
or_none o d e = rw e refl

number_here : (i : ℕ) (text : List ℕ) (d : Data) (rest : Members) (n : ℕ) → decimal i ≡ text → whole_number d ≡ Some n → number_at i (member text d rest) ≡ Some n
number_here i text d rest n same whole = ap (λ (found : Option Data). option_and_then whole_number found) (get_here (decimal i) d rest text same) ∙ whole

number_later : (i : ℕ) (text : List ℕ) (d : Data) (rest : Members) → decimal i ≢ text → number_at i (member text d rest) ≡ number_at i rest
number_later i text d rest other = ap (λ (found : Option Data). option_and_then whole_number found) (get_later (decimal i) d rest text other)

number_before : (i : ℕ) (text : List ℕ) (rest : Members) → decimal i ≡ text → IsBefore text rest → number_at i rest ≡ None
number_before i text rest same before =
    ap (λ (found : Option Data). option_and_then whole_number found) (get_before (decimal i) rest (subst (λ (k : List ℕ). IsBefore k rest) (sym same) before))

-- at an index of the version
table_says : TranslateApart → (v : Version) (o : Object) (table : Members) (p q : Plan) → Rise table → with_table v o table p ≡ Ok q →
    (i : ℕ) → has_index_in v o i ≡ true → q.value o (translated v o i) ≡ or_number (number_at i table) (p.value o (translated v o i))
table_says apart v o no_members p q rises e i has = ap (λ (r : Plan). r.value o (translated v o i)) (sym (if_ok true p q too_large e))
table_says apart v o (member text d rest) p q rises e i has =
    let first = then_ok (with_entry v o text d p) (with_table v o rest) q e in
    let put = entered v o text d p first.0 first.1 in
    let of = has_of v o i has in
    let later = table_says apart v o rest first.0 q rises.1 first.2 i has in
    elim (cases_Bool (bytes_eq (decimal i) text)) [
      | inl equal ↦
          let same : decimal i ≡ text = (bytes_eq-Decides (decimal i) text).0 equal in
          let one : put.index ≡ i = one_index v o put.index i put.high of.1 (put.spelt ∙ sym same) in
          let made : first.0.value o (translated v o i) ≡ put.value =
          subst (λ (j : ℕ). first.0.value o (translated v o j) ≡ put.value) one
          (ap (λ (r : Plan). r.value o (translated v o put.index)) (sym put.made) ∙ value_here p o (translated v o put.index) put.value) in
          later ∙ or_none _ _ (number_before i text rest same rises.0) ∙ made ∙ sym (or_some _ put.value _ (number_here i text d rest put.value same put.whole))
      | inr differ ↦
          let other : decimal i ≢ text = λ same. grind (arith, differ, (bytes_eq-Decides (decimal i) text).1 same) in
          let kept : first.0.value o (translated v o i) ≡ p.value o (translated v o i) =
          ap (λ (r : Plan). r.value o (translated v o i)) (sym put.made)
          ∙ value_apart p o (translated v o put.index) put.value o (translated v o i)
          (λ it at. other (ap decimal (sym (apart v o put.index i (has_index v o put.index of.0 put.low put.high) has at)) ∙ put.spelt)) in
          later ∙ rw (kept, number_later i text d rest other) refl
    ]

-- and elsewhere
table_leaves : (v : Version) (o : Object) (table : Members) (p q : Plan) → has_object v o ≡ true → with_table v o table p ≡ Ok q →
    (s : Object) (k : ℕ) → ((i : ℕ) → has_index_in v o i ≡ true → o ≡ s → translated v o i ≡ k → ⊥) → q.value s k ≡ p.value s k
table_leaves v o no_members p q has e s k ne = ap (λ (r : Plan). r.value s k) (sym (if_ok true p q too_large e))
table_leaves v o (member text d rest) p q has e s k ne =
    let first = then_ok (with_entry v o text d p) (with_table v o rest) q e in
    let put = entered v o text d p first.0 first.1 in
    table_leaves v o rest first.0 q has first.2 s k ne
    ∙ ap (λ (r : Plan). r.value s k) (sym put.made)
    ∙ value_apart p o (translated v o put.index) put.value s k (λ it at. ne put.index (has_index v o put.index has put.low put.high) it at)

-- ---- all members

record Read (v : Version) (name : List ℕ) (d : Data) (p q : Plan) : Type 0 where
  object : Object
  table : Members
  named : name_of object ≡ name
  has : has_object v object ≡ true
  is_table : as_object d ≡ Some table
  made : with_table v object table p ≡ Ok q

-- a member that has nothing for the plan: the version, or the notes
abbrev pub is_passed : Version → List ℕ → Bool
is_passed v name = bytes_eq name (codes "version") || is_notes v name

object_read : (v : Version) (name : List ℕ) (d : Data) (p q : Plan) → with_object v name d p ≡ Ok q → Read v name d p q
unfolding with_object
object_read v name d p q e =
    let o = or_ok (object_named v name) (no_such_object name) _ q e in
    let t = or_ok (as_object d) (object_not_a_table o.0) _ q o.2 in
    let is = (named_exact v name o.0).0 o.1 in
    record { object = o.0; table = t.0; named = is.name; has = is.has; is_table = t.1; made = t.2 }

-- any other member
read_of : (v : Version) (name : List ℕ) (d : Data) (p q : Plan) → is_passed v name ≡ false → with_member v name d p ≡ Ok q → Read v name d p q
unfolding with_member
read_of v name d p q other e =
    object_read v name d p q (kept (bytes_eq name (codes "version")) (is_notes v name) (Ok p) (with_notes d p) (with_object v name d p) other e)
  where
    kept : (a b : Bool) (r s t : Result Plan Error) → (a || b) ≡ false → (if a then r else (if b then s else t)) ≡ Ok q → t ≡ Ok q
    kept true b r s t h e = absurd (grind (arith, h))
    kept false true r s t h e = absurd (grind (arith, h))
    kept false false r s t h e = e

texts_keep : (table : Members) (p q : Plan) → noted table p ≡ Ok q → p ≡ q
texts_keep no_members p q e = if_ok true p q too_large e
texts_keep (member name d rest) p q e = texts_keep rest p q (or_ok (as_str d) (note_not_a_text name) _ q e).2

pub notes_keep : (d : Data) (p q : Plan) → with_notes d p ≡ Ok q → p ≡ q
unfolding with_notes
notes_keep d p q e =
    let t = or_ok (as_object d) notes_not_a_table _ q e in
    texts_keep t.0 p q t.2

pub skipped_is : (v : Version) (name : List ℕ) (d : Data) (p q : Plan) → is_passed v name ≡ true → with_member v name d p ≡ Ok q → p ≡ q
unfolding with_member
skipped_is v name d p q skip e = passed (bytes_eq name (codes "version")) (is_notes v name) skip e
  where
    passed : (a b : Bool) → (a || b) ≡ true → (if a then Ok p else (if b then with_notes d p else with_object v name d p)) ≡ Ok q → p ≡ q
    passed true b h e = if_ok true p q too_large e
    passed false true h e = notes_keep d p q e
    passed false false h e = absurd (grind (arith, h))

no_object_is_version : (o : Object) → name_of o ≢ codes "version"
no_object_is_version o = search rules

no_object_is_notes : (o : Object) → name_of o ≢ codes "notes"
no_object_is_notes o = search rules

-- nor is it of an object
passed_apart : (v : Version) (name : List ℕ) → is_passed v name ≡ true → (o : Object) → name_of o ≢ name
passed_apart v name skip o = go v (bytes_eq name (codes "version")) refl skip
  where
    go : (v : Version) (a : Bool) → bytes_eq name (codes "version") ≡ a → (a || is_notes v name) ≡ true → name_of o ≢ name
    go v true is h = λ same. no_object_is_version o (same ∙ (bytes_eq-Decides name (codes "version")).0 is)
    go One false is h = absurd (grind (arith, h))
    go Two false is h = absurd (grind (arith, h))
    go Three false is h = λ same. no_object_is_notes o (same ∙ (bytes_eq-Decides name (codes "notes")).0 h)

abbrev in_table : ℕ → Option Data → Option ℕ
in_table i found = option_and_then (number_at i) (option_and_then as_object found)

for_here : (o : Object) (i : ℕ) (name : List ℕ) (d : Data) (rest table : Members) → name_of o ≡ name → as_object d ≡ Some table →
    number_for (member name d rest) o i ≡ number_at i table
for_here o i name d rest table same is =
    ap (in_table i) (get_here (name_of o) d rest name same) ∙ ap (λ (found : Option Members). option_and_then (number_at i) found) is

for_later : (o : Object) (i : ℕ) (name : List ℕ) (d : Data) (rest : Members) → name_of o ≢ name → number_for (member name d rest) o i ≡ number_for rest o i
for_later o i name d rest other = ap (in_table i) (get_later (name_of o) d rest name other)

for_before : (o : Object) (i : ℕ) (name : List ℕ) (rest : Members) → name_of o ≡ name → IsBefore name rest → number_for rest o i ≡ None
for_before o i name rest same before = ap (in_table i) (get_before (name_of o) rest (subst (λ (k : List ℕ). IsBefore k rest) (sym same) before))

rise_in : (d : Data) (table : Members) → as_object d ≡ Some table → RiseIn d → Rise table
rise_in (object ms) table e h = subst Rise (same_Some ms table e) h
rise_in null table e h = absurd (grind (arith, e))
rise_in (boolean b) table e h = absurd (grind (arith, e))
rise_in (number n) table e h = absurd (grind (arith, e))
rise_in (string s) table e h = absurd (grind (arith, e))
rise_in (array ds) table e h = absurd (grind (arith, e))

members_say : TranslateApart → (v : Version) (ms : Members) (p q : Plan) → AllRise ms → with_members v ms p ≡ Ok q →
    (o : Object) (i : ℕ) → has_index_in v o i ≡ true → q.value o (translated v o i) ≡ or_number (number_for ms o i) (p.value o (translated v o i))
members_say apart v no_members p q rises e o i has = ap (λ (r : Plan). r.value o (translated v o i)) (sym (if_ok true p q too_large e))
members_say apart v (member name d rest) p q rises e o i has =
    let first = then_ok (with_member v name d p) (with_members v rest) q e in
    let later = members_say apart v rest first.0 q rises.2 first.2 o i has in
    elim (cases_Bool (is_passed v name)) [
      | inl skip ↦
          let kept : p ≡ first.0 = skipped_is v name d p first.0 skip first.1 in
          later ∙ rw (for_later o i name d rest (passed_apart v name skip o)) (ap (λ (r : Plan). or_number (number_for rest o i) (r.value o (translated v o i))) (sym kept))
      | inr read ↦
          let it = read_of v name d p first.0 read first.1 in
          elim (cases_Bool (bytes_eq (name_of o) name)) [
            | inl equal ↦
                let same : name_of o ≡ name = (bytes_eq-Decides (name_of o) name).0 equal in
                let one : it.object ≡ o = names-apart it.object o (it.named ∙ sym same) in
                let made : with_table v o it.table p ≡ Ok first.0 = subst (λ (s : Object). with_table v s it.table p ≡ Ok first.0) one it.made in
                let said = table_says apart v o it.table p first.0 (rise_in d it.table it.is_table rises.1) made i has in
                later ∙ or_none _ _ (for_before o i name rest same rises.0) ∙ said ∙ ap (λ (n : Option ℕ). or_number n (p.value o (translated v o i))) (sym (for_here o i name d rest it.table same it.is_table))
            | inr differ ↦
                let other : name_of o ≢ name = λ same. grind (arith, differ, (bytes_eq-Decides (name_of o) name).1 same) in
                let kept : first.0.value o (translated v o i) ≡ p.value o (translated v o i) =
                table_leaves v it.object it.table p first.0 it.has it.made o (translated v o i) (λ j hasj one at. other (ap name_of (sym one) ∙ it.named)) in
                later ∙ rw (kept, for_later o i name d rest other) refl
          ]
    ]

members_leave : (v : Version) (ms : Members) (p q : Plan) → with_members v ms p ≡ Ok q →
    (o : Object) (k : ℕ) → ((i : ℕ) → has_index_in v o i ≡ true → translated v o i ≢ k) → q.value o k ≡ p.value o k
members_leave v no_members p q e o k none = ap (λ (r : Plan). r.value o k) (sym (if_ok true p q too_large e))
members_leave v (member name d rest) p q e o k none =
    let first = then_ok (with_member v name d p) (with_members v rest) q e in
    let later = members_leave v rest first.0 q first.2 o k none in
    elim (cases_Bool (is_passed v name)) [
      | inl skip ↦ later ∙ ap (λ (r : Plan). r.value o k) (sym (skipped_is v name d p first.0 skip first.1))
      | inr read ↦
          let it = read_of v name d p first.0 read first.1 in
          later ∙ table_leaves v it.object it.table p first.0 it.has it.made o k
          (λ i has one at. none i (subst (λ (s : Object). has_index_in v s i ≡ true) one has) (subst (λ (s : Object). translated v s i ≡ k) one at))
    ]

pub says_these : TranslateApart → (v : Version) (ms : Members) (plan : Plan) → AllRise ms → with_members v ms empty ≡ Ok plan → SaysThese v ms plan
says_these apart v ms plan rises e = record {
  there = members_say apart v ms empty plan rises e;
  elsewhere = members_leave v ms empty plan e;
}

-- ---- a text

pub short : (b : Bool) (r : Result Plan Error) (q : Plan) → (if b then Err too_large else r) ≡ Ok q → r ≡ Ok q
short true r q e = absurd (grind (arith, e))
short false r q e = e

passed_is : (p q : Plan) → checked p ≡ Ok q → p ≡ q
unfolding checked
passed_is p q e = unbroken (first_broken p) e
  where
    unbroken : (r : Option Rule) → unless_broken r p ≡ Ok q → p ≡ q
    unbroken None e = if_ok true p q too_large e
    unbroken (Some r) e = absurd (grind (arith, e))

pub says : TranslateApart → (text : List ℕ) (plan : Plan) → reading text ≡ Ok plan → Says text plan
unfolding reading data_plan
says apart text plan e =
    let d = or_ok (data_of text) not_json (λ d. then_on (data_plan d) checked) plan (short (nat_lt limit (length text)) _ plan e) in
    let p = then_ok (data_plan d.0) checked plan d.2 in
    let ms = or_ok (as_object d.0) not_a_table _ p.0 p.1 in
    let v = or_ok (version_in ms.0) no_version _ p.0 ms.2 in
    let rises = read_all_rise text d.0 (read_of_data text d.0 d.1) ms.0 ms.1 in
    record {
      value = d.0;
      members = ms.0;
      version = v.0;
      is_json = d.1;
      is_table = ms.1;
      tells = v.1;
      these = subst (SaysThese v.0 ms.0) (passed_is p.0 plan p.2) (says_these apart v.0 ms.0 p.0 rises v.2);
    }

pub answer_says : TranslateApart → (r : Result Checked PlanError) (text : List ℕ) → Gives checked_plan r (reading text) → IfOk r (λ found. Says text (checked_plan found))
answer_says apart (Ok found) text h = says apart text (checked_plan found) h
answer_says apart (Err e) text h = tt
