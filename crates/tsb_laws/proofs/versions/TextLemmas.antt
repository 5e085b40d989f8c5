-- What is known of a text that is read, and that one of version 1 gives the wide plan of the plan that it names.
use Rattle.std.proofs.Common.{◌≡◌, ℕ, ◌≤◌, nat_le, nat_lt, Bool, true, false, List, length, Option, Some, None, Ok, Err, codes, bytes_eq, if◌then◌else◌, refl, arith, sym, ◌∙◌, ap, subst, inl, inr}
use Rattle.std.proofs.lemmas.Bool.{cases_Bool, leb-true}
use Rattle.serde_json.specs.Data.{Data, Members, no_members, member}
use Rattle.serde_json.specs.Find.{as_object}
use Rattle.tsb_step.specs.tsb_types.Lists.{or_number}
use Rattle.tsb_step.specs.tsb_plan.declared.object.Object.{Object}
use Rattle.tsb_step.specs.tsb_plan.declared.version.Version.{Version}
use Rattle.tsb_step.specs.tsb_plan.declared.version.Version.TheVariants.{One, Two, Three}
use Rattle.tsb_step.specs.tsb_plan.Names.{object_named}
use Rattle.tsb_step.specs.tsb_plan.Plan.{Plan, all_counts, empty, is_same, with_value}
use Rattle.tsb_step.specs.tsb_plan.Versions.{is_in_rows, has_index_in, indices_in, greatest_in, translated}
use Rattle.tsb_step.specs.tsb_plan.VersionLaws.{TranslateApart}
use Rattle.tsb_step.proofs.tsb_plan.TableLemmas.{order-injective}
use Rattle.tsb_step.proofs.tsb_plan.PlanLemmas.{same-parts}
use Rattle.tsb_plan_text.specs.PlanErrors.{Error, not_json, not_a_table, no_version, too_large, no_such_object, object_not_a_table, no_such_index, not_a_whole_number, out_of_range}
use Rattle.tsb_plan_text.specs.PlanText.{limit, data_of, version_in, data_plan, unless_broken, checked, reading, then_on, index_named, whole_number, with_entry, with_table, with_object, is_notes, with_notes, with_member, with_members}
use Rattle.tsb_plan_text.specs.PlanTextSays.{number_for, SaysThese, Says}
use Rattle.tsb_plan_text.proofs.SaysLemmas.{says}
use Rattle.tsb_step.specs.tsb_rules.declared.rules.Rule.{Rule}
use Rattle.tsb_step.specs.tsb_rules.Rules.{first_broken}
use Rattle.tsb_step.specs.declared.inputs.Input.{Input}
use Rattle.tsb_laws.specs.Widened.{IsNarrow, narrowed, AreWithin}
use Rattle.tsb_laws.specs.Versions.{SaysTheSame}
use Rattle.tsb_laws.specs.Texts.{IsOfVersion, named_plan, GoesAlike}
use Rattle.tsb_plan_text.proofs.SaysLemmas.{or_ok, then_ok, if_ok, notes_keep, short}
use Rattle.tsb_laws.proofs.versions.DeskLemmas.{from-one, row_index-back, translated-row, translated-flat}
use Rattle.tsb_laws.proofs.versions.RunLemmas.{break_the_same_rule, heads_agree, states_agree, take_the_same}

-- ## What is read so far

-- a plan with as many of each thing as a plan in memory, and with no value over what the version lets its object take
pub record IsRead (v : Version) (plan : Plan) : Type 0 where
  pub phases : plan.phase_count ≡ 16
  pub sides : plan.side_count ≡ 4
  pub counts : plan.counts ≡ all_counts
  pub bounded : (o : Object) (i : ℕ) → plan.value o i ≤ greatest_in v o

empty-read : (v : Version) → IsRead v empty
empty-read v = record { phases = refl; sides = refl; counts = refl; bounded = λ o i. omega arith }

put-read : (v : Version) (plan : Plan) (o : Object) (i n : ℕ) → n ≤ greatest_in v o → IsRead v plan → IsRead v (with_value plan o i n)
put-read v plan o i n few is = record { phases = is.phases; sides = is.sides; counts = is.counts; bounded = λ p k. most p k (is_same o i p k) refl }
  where
    most : (p : Object) (k : ℕ) (b : Bool) → is_same o i p k ≡ b → (if b then n else plan.value p k) ≤ greatest_in v p
    most p k true it = subst (λ (q : Object). n ≤ greatest_in v q) (order-injective o p (same-parts o p i k it).0) few
    most p k false it = is.bounded p k

entry-within : (v : Version) (plan : Plan) (o : Object) (i n : ℕ) (q : Plan) (f : Error) (b : Bool) → nat_le n (greatest_in v o) ≡ b →
    (if b then Ok (with_value plan o i n) else Err f) ≡ Ok q → IsRead v plan → IsRead v q
entry-within v plan o i n q f true few e is =
    subst (IsRead v) (if_ok true (with_value plan o i n) q f e) (put-read v plan o i n (leb-true n (greatest_in v o) few) is)
entry-within v plan o i n q f false few e is = absurd (grind (arith, e))

entry-read : (v : Version) (o : Object) (text : List ℕ) (d : Data) (p q : Plan) → IsRead v p → with_entry v o text d p ≡ Ok q → IsRead v q
unfolding with_entry
entry-read v o text d p q is e =
    let i = or_ok (index_named (indices_in v o) text) (no_such_index o text) _ q e in
    let n = or_ok (whole_number d) (not_a_whole_number o text) _ q i.2 in
    entry-within v p o (translated v o i.0) n.0 q (out_of_range o text) (nat_le n.0 (greatest_in v o)) refl n.2 is

table-read : (v : Version) (o : Object) (table : Members) (p q : Plan) → IsRead v p → with_table v o table p ≡ Ok q → IsRead v q
table-read v o no_members p q is e = subst (IsRead v) (if_ok true p q too_large e) is
table-read v o (member text d rest) p q is e =
    let first = then_ok (with_entry v o text d p) (with_table v o rest) q e in
    table-read v o rest first.0 q (entry-read v o text d p first.0 is first.1) first.2

object-read : (v : Version) (name : List ℕ) (d : Data) (p q : Plan) → IsRead v p → with_object v name d p ≡ Ok q → IsRead v q
unfolding with_object
object-read v name d p q is e =
    let o = or_ok (object_named v name) (no_such_object name) _ q e in
    let t = or_ok (as_object d) (object_not_a_table o.0) _ q o.2 in
    table-read v o.0 t.0 p q is t.2

member-read : (v : Version) (name : List ℕ) (d : Data) (p q : Plan) → IsRead v p → with_member v name d p ≡ Ok q → IsRead v q
unfolding with_member
member-read v name d p q is e = judged (bytes_eq name (codes "version")) (is_notes v name) e
  where
    judged : (a b : Bool) → (if a then Ok p else (if b then with_notes d p else with_object v name d p)) ≡ Ok q → IsRead v q
    judged true b e = subst (IsRead v) (if_ok true p q too_large e) is
    judged false true e = subst (IsRead v) (notes_keep d p q e) is
    judged false false e = object-read v name d p q is e

members-read : (v : Version) (ms : Members) (p q : Plan) → IsRead v p → with_members v ms p ≡ Ok q → IsRead v q
members-read v no_members p q is e = subst (IsRead v) (if_ok true p q too_large e) is
members-read v (member name d rest) p q is e =
    let first = then_ok (with_member v name d p) (with_members v rest) q e in
    members-read v rest first.0 q (member-read v name d p first.0 is first.1) first.2

-- ## A text

-- what is known of a text that is read
record WasRead (text : List ℕ) (plan : Plan) : Type 0 where
  value : Data
  members : Members
  version : Version
  is_json : data_of text ≡ Some value
  is_table : as_object value ≡ Some members
  tells : version_in members ≡ Some version
  made : with_members version members empty ≡ Ok plan
  right : first_broken plan ≡ None

-- a plan that passed the rules is the plan that was made
record Passed (p q : Plan) : Type 0 where
  same : p ≡ q
  right : first_broken q ≡ None

passed : (p q : Plan) → checked p ≡ Ok q → Passed p q
unfolding checked
passed p q e = judged (first_broken p) refl e
  where
    judged : (r : Option Rule) → first_broken p ≡ r → unless_broken r p ≡ Ok q → Passed p q
    judged None none e =
        let same : p ≡ q = if_ok true p q too_large e in
        record { same = same; right = subst (λ (x : Plan). first_broken x ≡ None) same none }
    judged (Some r) none e = absurd (grind (arith, e))

was-read : (text : List ℕ) (plan : Plan) → reading text ≡ Ok plan → WasRead text plan
unfolding reading data_plan
was-read text plan e =
    let d = or_ok (data_of text) not_json (λ d. then_on (data_plan d) checked) plan (short (nat_lt limit (length text)) _ plan e) in
    let p = then_ok (data_plan d.0) checked plan d.2 in
    let ms = or_ok (as_object d.0) not_a_table _ p.0 p.1 in
    let v = or_ok (version_in ms.0) no_version _ p.0 ms.2 in
    let pass = passed p.0 plan p.2 in
    record {
      value = d.0;
      members = ms.0;
      version = v.0;
      is_json = d.1;
      is_table = ms.1;
      tells = v.1;
      made = subst (λ (q : Plan). with_members v.0 ms.0 empty ≡ Ok q) pass.same v.2;
      right = pass.right;
    }

some-same : {A : Type 0} (o : Option A) (x y : A) → o ≡ Some x → o ≡ Some y → x ≡ y
some-same o x y one other = cc

-- a text has one list of members and one version
members-same : (text : List ℕ) (value other : Data) (members others : Members) → data_of text ≡ Some value → as_object value ≡ Some members →
    data_of text ≡ Some other → as_object other ≡ Some others → members ≡ others
members-same text value other members others json table json_too table_too =
    let same : value ≡ other = some-same (data_of text) value other json json_too in
    some-same (as_object value) members others table (ap as_object same ∙ table_too)

-- ## Of a version

-- no two indices are translated to one
apart : TranslateApart
apart One o i k has too e =
    elim (cases_Bool (is_in_rows o)) [
      | inl rows ↦
          sym (row_index-back i (from-one o i has)) ∙ ap narrowed (sym (translated-row o i rows) ∙ e ∙ translated-row o k rows) ∙ row_index-back k (from-one o k too)
      | inr flat ↦ sym (translated-flat o i flat) ∙ e ∙ translated-flat o k flat
    ]
apart Two o i k has too e = e
apart Three o i k has too e = e

-- what is read in a version is bounded as that version has it, and says what its members say
pub record IsReadIn (v : Version) (members : Members) (plan : Plan) : Type 0 where
  pub read : IsRead v plan
  pub made : with_members v members empty ≡ Ok plan
  pub these : SaysThese v members plan
  pub right : first_broken plan ≡ None

pub read-in : (v : Version) (text : List ℕ) (members : Members) (plan : Plan) → IsOfVersion v text members → reading text ≡ Ok plan → IsReadIn v members plan
read-in v text members plan is e =
    let was = was-read text plan e in
    let said : Says text plan = says apart text plan e in
    let ms : was.members ≡ members = members-same text was.value is.value was.members members was.is_json was.is_table is.is_json is.is_table in
    let x : was.version ≡ v = some-same (version_in was.members) was.version v was.tells (ap version_in ms ∙ is.tells) in
    let told : said.members ≡ members = members-same text said.value is.value said.members members said.is_json said.is_table is.is_json is.is_table in
    let y : said.version ≡ v = some-same (version_in said.members) said.version v said.tells (ap version_in told ∙ is.tells) in
    record {
      read = subst (λ (w : Version). IsRead w plan) x (members-read was.version was.members empty plan (empty-read was.version) was.made);
      made = subst (λ (ms : Members). with_members v ms empty ≡ Ok plan) ms (subst (λ (w : Version). with_members w was.members empty ≡ Ok plan) x was.made);
      these = subst (λ (ms : Members). SaysThese v ms plan) told (subst (λ (w : Version). SaysThese w said.members plan) y said.these);
      right = was.right;
    }

-- ## Of version 1

named-there : (members : Members) (o : Object) (i : ℕ) → has_index_in One o i ≡ true → (named_plan members).value o i ≡ or_number (number_for members o i) 0
named-there ms o i has = rw has refl

named-nowhere : (members : Members) (o : Object) (i : ℕ) → has_index_in One o i ≡ false → (named_plan members).value o i ≡ 0
named-nowhere ms o i has = rw has refl

named-bounded : (members : Members) (plan : Plan) → IsReadIn One members plan → (o : Object) (i : ℕ) → (named_plan members).value o i ≤ greatest_in One o
named-bounded members plan is o i =
    elim (cases_Bool (has_index_in One o i)) [
      | inl has ↦
          let same : (named_plan members).value o i ≡ plan.value o (translated One o i) = named-there members o i has ∙ sym (is.these.there o i has) in
          let few : plan.value o (translated One o i) ≤ greatest_in One o = is.read.bounded o (translated One o i) in
          omega (arith, same, few)
      | inr out ↦ let none : (named_plan members).value o i ≡ 0 = named-nowhere members o i out in omega (arith, none)
    ]

pub named-narrow : (text : List ℕ) (members : Members) (plan : Plan) → IsOfVersion One text members → reading text ≡ Ok plan → IsNarrow (named_plan members)
named-narrow text members plan is e = record {
  phase_count = refl;
  side_count = refl;
  counts = refl;
  placed = λ o i out. named-nowhere members o i out;
  bounded = named-bounded members plan (read-in One text members plan is e);
}

pub named-said : (text : List ℕ) (members : Members) (plan : Plan) → IsOfVersion One text members → reading text ≡ Ok plan → SaysTheSame (named_plan members) plan
named-said text members plan is e =
    let was : IsReadIn One members plan = read-in One text members plan is e in
    record {
      phase_count = was.read.phases;
      side_count = was.read.sides;
      counts = was.read.counts;
      there = λ o i has. was.these.there o i has ∙ sym (named-there members o i has);
      elsewhere = was.these.elsewhere;
    }

pub named-right : (text : List ℕ) (members : Members) (plan : Plan) → IsOfVersion One text members → reading text ≡ Ok plan → first_broken (named_plan members) ≡ None
named-right text members plan is e =
    sym (break_the_same_rule (named_plan members) plan (named-narrow text members plan is e) (named-said text members plan is e))
    ∙ (read-in One text members plan is e).right

pub goes-alike : (text : List ℕ) (members : Members) (plan : Plan) → IsOfVersion One text members → reading text ≡ Ok plan →
    (is : List Input) → AreWithin is → GoesAlike (named_plan members) plan is
goes-alike text members plan of e is within =
    let narrow : IsNarrow (named_plan members) = named-narrow text members plan of e in
    let same : SaysTheSame (named_plan members) plan = named-said text members plan of e in
    record {
      taken = take_the_same (named_plan members) plan is narrow same within;
      heads = heads_agree (named_plan members) plan is narrow same within;
      states = states_agree (named_plan members) plan is narrow same within;
    }
