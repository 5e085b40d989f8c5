-- What the JSON value of a plan has at each name and index.
use Rattle.std.proofs.Common.{◌≡◌, ◌≢◌, ◌∙◌, ℕ, zero, suc, ◌+◌, ◌<◌, ◌≤◌, ◌==◌, ◌⊎◌, Bool, true, false, List, [], ◌∷◌, if◌then◌else◌, Option, Some, option_map, option_and_then, codes, decimal, bytes_eq, length, get_or, refl, sym, ap, arith, rules, inl, inr}
use Rattle.std.specs.List.{list_all}
use Rattle.std.proofs.lemmas.Bool.{cases_Bool, cases_eq, eqb-true, lt-ltb}
use Rattle.std.proofs.lemmas.Bool.Decides.{nat_tests}
use Rattle.std.proofs.lemmas.Fmt.{decimal_injective}
use Rattle.std.proofs.lemmas.Slice.Eq.{bytes_eq-Decides}
use Rattle.json.specs.Json as json
use Rattle.serde_json.specs.Data.{Data, number, unsigned, object, Members, no_members, put}
use Rattle.serde_json.specs.Find.{get_member, as_object}
use Rattle.serde_json.specs.Read.{of_json, of_members}
use Rattle.serde_json.proofs.Numbers.{number_of-decimal}
use Rattle.serde_json.proofs.Views.{get_member-put, get_member-put_other}
use Rattle.tsb_objects.specs.tsb_types.Lists.{or_number, run_from}
use Rattle.tsb_plan.proofs.NameLemmas.{names-apart}
use Rattle.tsb_plan.proofs.TableLemmas.{at-order, few-indices, order-below, length-objects}
use Rattle.tsb_plan.specs.declared.object.Object.{Object}
use Rattle.tsb_plan.specs.declared.object.Object.TheVariants.{PhaseEnabled}
use Rattle.tsb_plan.specs.Names.{name_of}
use Rattle.tsb_plan.specs.Objects.{objects, order, indices, has_index}
use Rattle.tsb_plan.specs.Plan.{Plan}
use Rattle.tsb_plan.specs.Versions.{number_of}
use Rattle.tsb_plan_text.specs.PlanText.{whole_number}
use Rattle.tsb_plan_text.specs.PlanTextSays.{number_at, number_for}
use Rattle.tsb_status_text.specs.PlanLine.{entries, is_all_zeros, members_of, plan_json, table, version_for, with_object}
use Rattle.tsb_status_text.proofs.JsonLemmas.{AreSmall, few_versions}

-- ## The value

-- the value at an index among others, unless it is 0
abbrev pub put_entry : ℕ → ℕ → Members → Members
put_entry i v found = if v == 0 then found else put (decimal i) (number (unsigned v)) found

-- the values of an object at these indices
abbrev pub put_entries : Plan → Object → List ℕ → Members → Members
put_entries plan o [] found = found
put_entries plan o (i ∷ is) found = put_entries plan o is (put_entry i (plan.value o i) found)

-- the table of an object
abbrev pub data_table : Plan → Object → Members
data_table plan o = put_entries plan o (run_from 1 (indices o)) no_members

-- an object with its table among others, unless it is all zeros
abbrev pub put_object : Plan → Object → Members → Members
put_object plan o found = if is_all_zeros plan o then found else put (name_of o) (object (data_table plan o)) found

-- these objects
abbrev pub put_objects : Plan → List Object → Members → Members
put_objects plan [] found = found
put_objects plan (o ∷ os) found = put_objects plan os (put_object plan o found)

-- the version alone
abbrev pub version_alone : Plan → Members
version_alone plan = put (codes "version") (number (unsigned (number_of (version_for plan)))) no_members

-- all members
unfoldable pub plan_members : Plan → Members
plan_members plan = put_objects plan objects (version_alone plan)

entry_data : (b : Bool) (i v : ℕ) (rest : json.Members) (found : Members) (then_is : Members → Members) → v < 65536 →
    ((f : Members) → of_members rest f ≡ Some (then_is f)) →
    of_members (if b then rest else json.member (decimal i) (json.number (decimal v)) rest) found ≡ Some (then_is (if b then found else put (decimal i) (number (unsigned v)) found))
entry_data true i v rest found then_is small h = h found
entry_data false i v rest found then_is small h =
    let read = number_of-decimal v (omega (arith, small)) in
    rw read (h (put (decimal i) (number (unsigned v)) found))

entries_data : (plan : Plan) → AreSmall plan → (o : Object) (is : List ℕ) (found : Members) → of_members (entries plan o is) found ≡ Some (put_entries plan o is found)
entries_data plan small o [] found = refl
entries_data plan small o (i ∷ is) found =
    entry_data (plan.value o i == 0) i (plan.value o i) (entries plan o is) found (put_entries plan o is) (small o i) (entries_data plan small o is)

table_data : (plan : Plan) → AreSmall plan → (o : Object) → of_json (json.object (table plan o)) ≡ Some (object (data_table plan o))
unfolding table
table_data plan small o = ap (option_map object) (entries_data plan small o (run_from 1 (indices o)) no_members)

object_data : (b : Bool) (k : List ℕ) (ms rest : json.Members) (d : Data) (found : Members) (then_is : Members → Members) → of_json (json.object ms) ≡ Some d →
    ((f : Members) → of_members rest f ≡ Some (then_is f)) →
    of_members (if b then rest else json.member k (json.object ms) rest) found ≡ Some (then_is (if b then found else put k d found))
object_data true k ms rest d found then_is is h = h found
object_data false k ms rest d found then_is is h =
    ap (λ (o : Option Data). option_and_then (λ e. of_members rest (put k e found)) o) is ∙ h (put k d found)

members_data : (plan : Plan) → AreSmall plan → (os : List Object) (found : Members) → of_members (members_of plan os) found ≡ Some (put_objects plan os found)
unfolding with_object
members_data plan small [] found = refl
members_data plan small (o ∷ os) found =
    object_data (is_all_zeros plan o) (name_of o) (table plan o) (members_of plan os) (object (data_table plan o)) found (put_objects plan os) (table_data plan small o) (members_data plan small os)

pub plan_data : (plan : Plan) → AreSmall plan → of_json (plan_json plan) ≡ Some (object (plan_members plan))
unfolding plan_json plan_members
plan_data plan small =
    let read = number_of-decimal (number_of (version_for plan)) (omega (arith, few_versions (version_for plan))) in
    rw read (ap (option_map object) (members_data plan small objects (version_alone plan)))

-- ## At an index of a table

pub whole_small : (v : ℕ) → v < 65536 → whole_number (number (unsigned v)) ≡ Some v
whole_small v small = rw (lt-ltb v 4294967296 (omega (arith, small))) refl

-- what an index has there, 0 for nothing
abbrev at_index : ℕ → Members → ℕ
at_index i found = or_number (number_at i found) 0

entry_here : (b : Bool) (i v : ℕ) (found : Members) → (b ≡ true → at_index i found ≡ v) → v < 65536 → at_index i (if b then found else put (decimal i) (number (unsigned v)) found) ≡ v
entry_here true i v found none small = none refl
entry_here false i v found none small =
    ap (λ (o : Option Data). or_number (option_and_then whole_number o) 0) (get_member-put (decimal i) (number (unsigned v)) found)
    ∙ ap (λ (o : Option ℕ). or_number o 0) (whole_small v small)

entry_other : (b : Bool) (i k v : ℕ) (found : Members) → decimal i ≢ decimal k → number_at i (if b then found else put (decimal k) (number (unsigned v)) found) ≡ number_at i found
entry_other true i k v found ne = refl
entry_other false i k v found ne = ap (λ (o : Option Data). option_and_then whole_number o) (get_member-put_other (decimal i) (decimal k) (number (unsigned v)) found ne)

apart : (i k : ℕ) → i < 1000 → k < 1000 → i ≢ k → decimal i ≢ decimal k
apart i k hi hk ne e = ne (decimal_injective i k (omega (arith, hi)) (omega (arith, hk)) e)

-- later indices leave it
entries_leave : (plan : Plan) (o : Object) (a n i : ℕ) (found : Members) → i < a → a + n ≤ 1000 → number_at i (put_entries plan o (run_from a n) found) ≡ number_at i found
unfolding run_from
entries_leave plan o a zero i found below le = refl
entries_leave plan o a (suc n) i found below le =
    entries_leave plan o (a + 1) n i (put_entry a (plan.value o a) found) (omega (arith, below)) (omega (arith, le))
    ∙ entry_other (plan.value o a == 0) i a (plan.value o a) found (apart i a (omega (arith, below, le)) (omega (arith, le)) (λ e. omega (arith, e, below)))

entries_there : (plan : Plan) → AreSmall plan → (o : Object) (a n i : ℕ) (found : Members) → a ≤ i → i < a + n → a + n ≤ 1000 → at_index i found ≡ 0 →
    at_index i (put_entries plan o (run_from a n) found) ≡ plan.value o i
unfolding run_from
entries_there plan small o a zero i found from below le none = absurd (omega (arith, from, below))
entries_there plan small o a (suc n) i found from below le none =
    elim (cases_eq i a) [
      | inl same ↦
          let left = entries_leave plan o (a + 1) n i (put_entry a (plan.value o a) found) (omega (arith, same)) (omega (arith, le)) in
          let here = entry_here (plan.value o i == 0) i (plan.value o i) found (λ zero_is. none ∙ sym (eqb-true (plan.value o i) 0 zero_is)) (small o i) in
          ap (λ (r : Option ℕ). or_number r 0) left
          ∙ ap (λ (k : ℕ). at_index i (put_entry k (plan.value o k) found)) (sym same)
          ∙ here
      | inr other ↦
          let same = entry_other (plan.value o a == 0) i a (plan.value o a) found (apart i a (omega (arith, below, le)) (omega (arith, le)) other) in
          entries_there plan small o (a + 1) n i (put_entry a (plan.value o a) found) (omega (arith, from, other)) (omega (arith, below)) (omega (arith, le))
          (ap (λ (r : Option ℕ). or_number r 0) same ∙ none)
    ]

table_there : (plan : Plan) → AreSmall plan → (o : Object) (i : ℕ) → 1 ≤ i → i ≤ indices o → at_index i (data_table plan o) ≡ plan.value o i
table_there plan small o i from to = entries_there plan small o 1 (indices o) i no_members from (omega (arith, to)) (omega (arith, few-indices o)) refl

-- ## At an object and index

-- what they have there, 0 for nothing
abbrev at_object : Object → ℕ → Members → ℕ
at_object o i found = or_number (number_for found o i) 0

zeros_from : (value : ℕ → ℕ) (a n i : ℕ) → a ≤ i → i < a + n → list_all (λ k. value k == 0) (run_from a n) ≡ true → value i ≡ 0
unfolding run_from
zeros_from value a zero i from below all = absurd (omega (arith, from, below))
zeros_from value a (suc n) i from below all =
    elim (cases_eq a i) [
      | inl same ↦ ap value (sym same) ∙ eqb-true (value a) 0 (grind (arith, all))
      | inr other ↦ zeros_from value (a + 1) n i (omega (arith, from, other)) (omega (arith, below)) (grind (arith, all))
    ]

zero_there : (plan : Plan) (o : Object) (i : ℕ) → 1 ≤ i → i ≤ indices o → is_all_zeros plan o ≡ true → plan.value o i ≡ 0
unfolding is_all_zeros
zero_there plan o i from to all = zeros_from (plan.value o) 1 (indices o) i from (omega (arith, to)) all

-- it has what the plan has, or nothing yet
abbrev IsThere : ℕ → ℕ → Type 0
IsThere here v = (here ≡ v) ⊎ (here ≡ 0)

object_here : (b : Bool) (plan : Plan) → AreSmall plan → (o : Object) (i : ℕ) (found : Members) → 1 ≤ i → i ≤ indices o → is_all_zeros plan o ≡ b → IsThere (at_object o i found) (plan.value o i) →
    at_object o i (if b then found else put (name_of o) (object (data_table plan o)) found) ≡ plan.value o i
object_here true plan small o i found from to all (inl is) = is
object_here true plan small o i found from to all (inr none) = none ∙ sym (zero_there plan o i from to all)
object_here false plan small o i found from to all h =
    ap (λ (d : Option Data). or_number (option_and_then (number_at i) (option_and_then as_object d)) 0) (get_member-put (name_of o) (object (data_table plan o)) found)
    ∙ table_there plan small o i from to

object_other : (b : Bool) (o : Object) (i : ℕ) (k : List ℕ) (d : Data) (found : Members) → name_of o ≢ k → number_for (if b then found else put k d found) o i ≡ number_for found o i
object_other true o i k d found ne = refl
object_other false o i k d found ne =
    ap (λ (e : Option Data). option_and_then (number_at i) (option_and_then as_object e)) (get_member-put_other (name_of o) k d found ne)

-- the object is one of these
abbrev Has : Object → List Object → Type 0
Has o [] = ⊥
Has o (s ∷ os) = (s ≡ o) ⊎ Has o os

abbrev IsLeft : ℕ → ℕ → Object → List Object → Type 0
IsLeft here v o os = (here ≡ v) ⊎ ((here ≡ 0) × Has o os)

there : (here v : ℕ) (o : Object) (os : List Object) → IsLeft here v o os → IsThere here v
there here v o os (inl is) = inl is
there here v o os (inr none) = inr none.0

left : (here v : ℕ) (o s : Object) (os : List Object) → (s ≡ o → ⊥) → IsLeft here v o (s ∷ os) → IsLeft here v o os
left here v o s os ne (inl is) = inl is
left here v o s os ne (inr (none, inl same)) = absurd (ne same)
left here v o s os ne (inr (none, inr has)) = inr (none, has)

moved : (here next v : ℕ) (o : Object) (os : List Object) → next ≡ here → IsLeft here v o os → IsLeft next v o os
moved here next v o os same (inl is) = inl (same ∙ is)
moved here next v o os same (inr h) = inr (same ∙ h.0, h.1)

objects_there : (plan : Plan) → AreSmall plan → (o : Object) (i : ℕ) → 1 ≤ i → i ≤ indices o → (os : List Object) (found : Members) →
    IsLeft (at_object o i found) (plan.value o i) o os → at_object o i (put_objects plan os found) ≡ plan.value o i
objects_there plan small o i from to [] found (inl is) = is
objects_there plan small o i from to [] found (inr h) = absurd h.1
objects_there plan small o i from to (s ∷ os) found h =
    objects_there plan small o i from to os (put_object plan s found)
    (elim (cases_Bool (bytes_eq (name_of o) (name_of s))) [
      | inl equal ↦
          let same : o ≡ s = names-apart o s ((bytes_eq-Decides (name_of o) (name_of s)).0 equal) in
          inl (ap (λ (p : Object). at_object o i (put_object plan p found)) (sym same) ∙ object_here (is_all_zeros plan o) plan small o i found from to refl (there _ _ o (s ∷ os) h))
      | inr differ ↦
          let ne : name_of o ≢ name_of s = λ e. grind (arith, differ, (bytes_eq-Decides (name_of o) (name_of s)).1 e) in
          moved _ _ _ o os (ap (λ (r : Option ℕ). or_number r 0) (object_other (is_all_zeros plan s) o i (name_of s) (object (data_table plan s)) found ne))
          (left _ _ o s os (λ e. ne (ap name_of (sym e))) h)
    ])

has_at : (os : List Object) (k : ℕ) (o d : Object) → k < length os → get_or os k d ≡ o → Has o os
has_at [] k o d below is = absurd (omega (arith, below))
has_at (s ∷ os) zero o d below is = inl is
has_at (s ∷ os) (suc k) o d below is = inr (has_at os k o d (omega (arith, below)) is)

all_has : (o : Object) → Has o objects
all_has o = has_at objects (order o) o PhaseEnabled (rw length-objects (order-below o)) (at-order o)

-- the members have each value of the plan
pub value_there : (plan : Plan) → AreSmall plan → (o : Object) (i : ℕ) → has_index o i ≡ true → or_number (number_for (plan_members plan) o i) 0 ≡ plan.value o i
unfolding plan_members
value_there plan small o i has =
    let from : 1 ≤ i = grind (arith, nat_tests, has) in
    let to : i ≤ indices o = grind (arith, nat_tests, has) in
    objects_there plan small o i from to objects (version_alone plan) (inr (no_object o i, all_has o))
  where
    no_object : (o : Object) (i : ℕ) → at_object o i (version_alone plan) ≡ 0
    no_object o i = search rules

-- ## The version

pub not_version : (o : Object) → bytes_eq (name_of o) (codes "version") ≡ false
not_version o = search rules

pub not_notes : (o : Object) → bytes_eq (name_of o) (codes "notes") ≡ false
not_notes o = search rules

version_left : (b : Bool) (k : List ℕ) (d : Data) (found : Members) → codes "version" ≢ k → get_member (codes "version") (if b then found else put k d found) ≡ get_member (codes "version") found
version_left true k d found ne = refl
version_left false k d found ne = get_member-put_other (codes "version") k d found ne

objects_leave : (plan : Plan) (os : List Object) (found : Members) → get_member (codes "version") (put_objects plan os found) ≡ get_member (codes "version") found
objects_leave plan [] found = refl
objects_leave plan (o ∷ os) found =
    let ne : codes "version" ≢ name_of o = λ e. grind (arith, not_version o, (bytes_eq-Decides (name_of o) (codes "version")).1 (sym e)) in
    objects_leave plan os (put_object plan o found) ∙ version_left (is_all_zeros plan o) (name_of o) (object (data_table plan o)) found ne

pub version_there : (plan : Plan) → get_member (codes "version") (plan_members plan) ≡ Some (number (unsigned (number_of (version_for plan))))
unfolding plan_members
version_there plan = objects_leave plan objects (version_alone plan)
