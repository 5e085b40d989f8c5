-- Each member of a plan's line is accepted: its name is an object's, its indices are, and its values are in range.
use Rattle.std.proofs.Common.{◌≡◌, ◌∙◌, ℕ, zero, suc, ◌+◌, ◌<◌, ◌≤◌, ◌==◌, nat_le, ◌&&◌, ◌||◌, ◌⊎◌, Bool, true, false, List, [], ◌∷◌, if◌then◌else◌, Some, Result, Ok, codes, decimal, bytes_eq, Ordering, Less, Equal, Greater, nat_cmp, refl, sym, true≢false, ap, subst, arith, rules, inl, inr}
use Rattle.std.proofs.lemmas.Bool.{and_from, and_parts, cases_Bool, leb-true, le-leb}
use Rattle.std.proofs.lemmas.Bool.Decides.{nat_tests}
use Rattle.std.proofs.lemmas.List.Folds.{list_all_at}
use Rattle.std.proofs.lemmas.Map.Lookups.{exact_bytes}
use Rattle.std.proofs.lemmas.Slice.Eq.{bytes_eq-Decides}
use Rattle.std.specs.Bool.{⊤}
use Rattle.std.specs.List.{list_all}
use Rattle.std.specs.Cmp.Lexicographic.{slice_cmp}
use Rattle.std.specs.Ordering.{match_ordering}
use Rattle.serde_json.specs.Data.{Data, number, unsigned, object, Members, no_members, member, put}
use Rattle.tsb_objects.specs.tsb_types.Lists.{run_from}
use Rattle.tsb_objects.proofs.tsb_types.RunLemmas.{all-run_from}
use Rattle.tsb_objects.proofs.tsb_rules.RuleLemmas.{at-run_from}
use Rattle.tsb_plan.proofs.NameLemmas.{named_exact}
use Rattle.tsb_plan.proofs.TableLemmas.{at-order, few-indices, order-below, length-objects}
use Rattle.tsb_plan.specs.declared.object.Object.{Object}
use Rattle.tsb_plan.specs.declared.object.Object.TheVariants.{PhaseEnabled}
use Rattle.tsb_plan.specs.declared.version.Version.{Version}
use Rattle.tsb_plan.specs.declared.version.Version.TheVariants.{One, Two, Three}
use Rattle.tsb_plan.specs.Names.{name_of, object_named}
use Rattle.tsb_plan.specs.Objects.{objects, order, indices, greatest}
use Rattle.tsb_plan.specs.Plan.{Plan, with_value}
use Rattle.tsb_plan.specs.Versions.{has_object, has_index_in, indices_in, greatest_in, translated}
use Rattle.tsb_plan_text.proofs.NumberLemmas.{index_found}
use Rattle.tsb_plan_text.specs.PlanErrors.{Error}
use Rattle.tsb_plan_text.specs.PlanText.{index_named, whole_number, with_entry, with_table, with_object, is_notes, with_member, with_members}
use Rattle.tsb_status_text.specs.PlanLine.{fits_version_2, is_all_zeros, is_of_version_2, version_for}
use Rattle.tsb_status_text.proofs.FoundLemmas.{data_table, not_version, not_notes, plan_members, put_entries, put_entry, put_object, put_objects, version_alone, whole_small}
use Rattle.tsb_status_text.proofs.JsonLemmas.{AreSmall}

-- the plan that a reading gives, with as many phases, sides, detectors, overlaps and preempts as one before
pub record Accepted (r : Result Plan Error) (before : Plan) : Type 0 where
  pub plan : Plan
  pub is : r ≡ Ok plan
  pub phases : plan.phase_count ≡ before.phase_count
  pub sides : plan.side_count ≡ before.side_count
  pub counts : plan.counts ≡ before.counts

-- ## The version

-- texts of the version have indices of a plan
pub record IsAsInPlan (v : Version) : Type 0 where
  pub within : (o : Object) → indices_in v o ≤ indices o
  pub at : (o : Object) (i : ℕ) → translated v o i ≡ i

-- and they have each index at which the plan is not 0, up to its value
abbrev pub HasAllOf : Version → Plan → Type 0
HasAllOf v plan = (o : Object) (i : ℕ) → 1 ≤ i → i ≤ indices o → (plan.value o i == 0) ≡ false → (has_index_in v o i ≡ true) × (plan.value o i ≤ greatest_in v o)

-- each value is in its object's range
abbrev pub AreRanged : Plan → Type 0
AreRanged plan = (o : Object) (i : ℕ) → plan.value o i ≤ greatest o

few-in-two : (o : Object) → indices_in Two o ≤ indices o
few-in-two o = search rules

as-in-plan : (b : Bool) → IsAsInPlan (if b then Two else Three)
as-in-plan true = record { within = few-in-two; at = λ o i. refl }
as-in-plan false = record { within = λ o. omega arith; at = λ o i. refl }

pub version-as-in-plan : (plan : Plan) → IsAsInPlan (version_for plan)
unfolding version_for
version-as-in-plan plan = as-in-plan (list_all (fits_version_2 plan) objects)

all-fit : (plan : Plan) (o : Object) → list_all (fits_version_2 plan) objects ≡ true → fits_version_2 plan o ≡ true
all-fit plan o all = elim (cases_Bool (fits_version_2 plan o)) [
  | inl fits ↦ fits
  | inr fails ↦
      absurd (true≢false (sym all ∙ list_all_at (fits_version_2 plan) objects (order o) PhaseEnabled (rw length-objects (order-below o))
      (ap (fits_version_2 plan) (at-order o) ∙ fails)))
]

has-all : (plan : Plan) → AreRanged plan → (b : Bool) → list_all (fits_version_2 plan) objects ≡ b → HasAllOf (if b then Two else Three) plan
unfolding fits_version_2
has-all plan ranged true all = λ o i from to given.
    let told : (plan.value o i == 0 || is_of_version_2 plan o i) ≡ true =
    at-run_from (λ k. plan.value o k == 0 || is_of_version_2 plan o k) 1 (indices o) i (all-fit plan o all) from (omega (arith, to)) in
    let both : is_of_version_2 plan o i ≡ true = ap (λ (b : Bool). b || is_of_version_2 plan o i) (sym given) ∙ told in
    let parts = and_parts (has_index_in Two o i) (nat_le (plan.value o i) (greatest_in Two o)) both in
    (parts.0, leb-true (plan.value o i) (greatest_in Two o) parts.1)
has-all plan ranged false some = λ o i from to given. (and_from (nat_le 1 i) _ (le-leb 1 i from) (le-leb i (indices o) to), ranged o i)

pub version-has-all : (plan : Plan) → AreRanged plan → HasAllOf (version_for plan) plan
unfolding version_for
version-has-all plan ranged = has-all plan ranged (list_all (fits_version_2 plan) objects) refl

-- it has each object that is not all zeros
has-object : (v : Version) (plan : Plan) → HasAllOf v plan → (o : Object) → is_all_zeros plan o ≡ false → has_object v o ≡ true
unfolding is_all_zeros
has-object v plan has o given = elim (cases_Bool (has_object v o)) [
  | inl is ↦ is
  | inr hasnt ↦
      absurd (true≢false (sym (all-run_from (λ i. plan.value o i == 0) 1 (indices o) (λ i from below. elim (cases_Bool (plan.value o i == 0)) [
        | inl zero_is ↦ zero_is
        | inr other ↦ absurd (true≢false (sym (has o i from (omega (arith, below)) other).0 ∙ ap (λ (b : Bool). b && (nat_le 1 i && nat_le i (indices_in v o))) hasnt))
      ])) ∙ given))
]

-- ## A table

abbrev IsIndex : Version → Object → List ℕ → Type 0
IsIndex v o text = (i : ℕ) × (1 ≤ i) × (i ≤ indices_in v o) × (decimal i ≡ text)

abbrev IsValue : Version → Object → Data → Type 0
IsValue v o d = (n : ℕ) × (whole_number d ≡ Some n) × (n ≤ greatest_in v o)

abbrev IsTable : Version → Object → Members → Type 0
IsTable v o no_members = ⊤
IsTable v o (member text d ms) = IsIndex v o text × IsValue v o d × IsTable v o ms

table_put : (v : Version) (o : Object) (k : List ℕ) (d : Data) (ms : Members) → IsIndex v o k → IsValue v o d → IsTable v o ms → IsTable v o (put k d ms)
table_put v o k d no_members index value h = (index, value, tt)
table_put v o k d (member l e ms) index value h = go (table_put v o k d ms index value h.2) (slice_cmp nat_cmp k l)
  where
    go : IsTable v o (put k d ms) → (r : Ordering) → IsTable v o (match_ordering r (member k d (member l e ms)) (member l d ms) (member l e (put k d ms)))
    go later Less = (index, value, h)
    go later Equal = (h.0, value, h.2)
    go later Greater = (h.0, h.1, later)

entry_accepted : (v : Version) → IsAsInPlan v → (o : Object) (text : List ℕ) (d : Data) (p : Plan) → IsIndex v o text → IsValue v o d → Accepted (with_entry v o text d p) p
unfolding with_entry
entry_accepted v whole o text d p index value =
    let i : ℕ = index.0 in
    let n : ℕ = value.0 in
    let named : index_named (indices_in v o) text ≡ Some i =
    index_found (indices_in v o) text i index.1 index.3 index.2 (omega (arith, index.2, whole.within o, few-indices o)) in
    record { plan = with_value p o (translated v o i) n; is = rw (named, value.1, le-leb n (greatest_in v o) value.2) refl; phases = refl; sides = refl; counts = refl }

table_accepted : (v : Version) → IsAsInPlan v → (o : Object) (ms : Members) (p : Plan) → IsTable v o ms → Accepted (with_table v o ms p) p
table_accepted v whole o no_members p h = record { plan = p; is = refl; phases = refl; sides = refl; counts = refl }
table_accepted v whole o (member text d ms) p h =
    let first = entry_accepted v whole o text d p h.0 h.1 in
    let later = table_accepted v whole o ms first.plan h.2 in
    record { plan = later.plan; is = rw first.is later.is; phases = later.phases ∙ first.phases; sides = later.sides ∙ first.sides; counts = later.counts ∙ first.counts }

-- ## Members

abbrev IsMember : Version → List ℕ → Data → Type 0
IsMember v name d =
    (name ≡ codes "version") ⊎ ((o : Object) × (table : Members) × (name_of o ≡ name) × (d ≡ object table) × (has_object v o ≡ true) × IsTable v o table)

abbrev pub AreMembers : Version → Members → Type 0
AreMembers v no_members = ⊤
AreMembers v (member k d ms) = IsMember v k d × AreMembers v ms

members_put : (v : Version) (k : List ℕ) (d : Data) (ms : Members) → IsMember v k d → AreMembers v ms → AreMembers v (put k d ms)
members_put v k d no_members new h = (new, tt)
members_put v k d (member l e ms) new h = go (members_put v k d ms new h.1) (slice_cmp nat_cmp k l) refl
  where
    go : AreMembers v (put k d ms) → (r : Ordering) → slice_cmp nat_cmp k l ≡ r → AreMembers v (match_ordering r (member k d (member l e ms)) (member l d ms) (member l e (put k d ms)))
    go later Less is = (new, h)
    go later Equal is = (subst (λ (t : List ℕ). IsMember v t d) (exact_bytes k l is) new, h.1)
    go later Greater is = (h.0, later)

-- no object has the name of the notes
apart_from_notes : (v : Version) (o : Object) → is_notes v (name_of o) ≡ false
apart_from_notes One o = refl
apart_from_notes Two o = refl
apart_from_notes Three o = not_notes o

member_accepted : (v : Version) → IsAsInPlan v → (name : List ℕ) (d : Data) (p : Plan) → IsMember v name d → Accepted (with_member v name d p) p
unfolding with_member with_object
member_accepted v whole name d p (inl version) = record { plan = p; is = rw ((bytes_eq-Decides name (codes "version")).1 version) refl; phases = refl; sides = refl; counts = refl }
member_accepted v whole name d p (inr (o, table, named, is, has, good)) =
    let other : bytes_eq name (codes "version") ≡ false = ap (λ (t : List ℕ). bytes_eq t (codes "version")) (sym named) ∙ not_version o in
    let found : object_named v name ≡ Some o = (named_exact v name o).1 (record { has = has; name = named }) in
    let apart : is_notes v name ≡ false = ap (is_notes v) (sym named) ∙ apart_from_notes v o in
    let made = table_accepted v whole o table p good in
    record { plan = made.plan; is = rw (other, apart, found, is) made.is; phases = made.phases; sides = made.sides; counts = made.counts }

pub members_accepted : (v : Version) → IsAsInPlan v → (ms : Members) (p : Plan) → AreMembers v ms → Accepted (with_members v ms p) p
members_accepted v whole no_members p h = record { plan = p; is = refl; phases = refl; sides = refl; counts = refl }
members_accepted v whole (member name d ms) p h =
    let first = member_accepted v whole name d p h.0 in
    let later = members_accepted v whole ms first.plan h.1 in
    record { plan = later.plan; is = rw first.is later.is; phases = later.phases ∙ first.phases; sides = later.sides ∙ first.sides; counts = later.counts ∙ first.counts }

-- ## Those of a plan

entry_good : (v : Version) (b : Bool) (o : Object) (i n : ℕ) (found : Members) → 1 ≤ i → (b ≡ false → (has_index_in v o i ≡ true) × (n ≤ greatest_in v o)) → n < 65536 → IsTable v o found →
    IsTable v o (if b then found else put (decimal i) (number (unsigned n)) found)
entry_good v true o i n found from has small h = h
entry_good v false o i n found from has small h =
    let to : i ≤ indices_in v o = grind (arith, nat_tests, (has refl).0) in
    table_put v o (decimal i) (number (unsigned n)) found (i, from, to, refl) (n, whole_small n small, (has refl).1) h

entries_good : (v : Version) (plan : Plan) → HasAllOf v plan → AreSmall plan → (o : Object) (a n : ℕ) (found : Members) → 1 ≤ a → a + n ≤ indices o + 1 → IsTable v o found →
    IsTable v o (put_entries plan o (run_from a n) found)
unfolding run_from
entries_good v plan has small o a zero found from le h = h
entries_good v plan has small o a (suc n) found from le h =
    entries_good v plan has small o (a + 1) n (put_entry a (plan.value o a) found) (omega arith) (omega (arith, le))
    (entry_good v (plan.value o a == 0) o a (plan.value o a) found from (has o a from (omega (arith, le))) (small o a) h)

table_good : (v : Version) (plan : Plan) → HasAllOf v plan → AreSmall plan → (o : Object) → IsTable v o (data_table plan o)
table_good v plan has small o = entries_good v plan has small o 1 (indices o) no_members (omega arith) (omega arith) tt

object_good : (v : Version) (b : Bool) (k : List ℕ) (d : Data) (found : Members) → (b ≡ false → IsMember v k d) → AreMembers v found →
    AreMembers v (if b then found else put k d found)
object_good v true k d found new h = h
object_good v false k d found new h = members_put v k d found (new refl) h

objects_good : (v : Version) (plan : Plan) → HasAllOf v plan → AreSmall plan → (os : List Object) (found : Members) → AreMembers v found →
    AreMembers v (put_objects plan os found)
objects_good v plan has small [] found h = h
objects_good v plan has small (o ∷ os) found h =
    objects_good v plan has small os (put_object plan o found)
    (object_good v (is_all_zeros plan o) (name_of o) (object (data_table plan o)) found
    (λ given. inr (o, data_table plan o, refl, refl, has-object v plan has o given, table_good v plan has small o)) h)

pub plan_good : (plan : Plan) → AreSmall plan → AreRanged plan → AreMembers (version_for plan) (plan_members plan)
unfolding plan_members
plan_good plan small ranged = objects_good (version_for plan) plan (version-has-all plan ranged) small objects (version_alone plan) (inl refl, tt)
