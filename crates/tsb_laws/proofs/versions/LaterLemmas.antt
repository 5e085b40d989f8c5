-- A plan text of version 2 is, with another number, one of version 3; and no version gives what came after it.
use Rattle.std.proofs.Common.{zero, suc, ◌≡◌, ℕ, ◌+◌, ◌≤◌, nat_le, nat_lt, cond, find, Bool, true, false, List, length, Some, Ok, Err, codes, bytes_eq, if◌then◌else◌, Ordering, Less, Equal, Greater, nat_cmp, refl, sym, ◌∙◌, true≢false, subst, arith}
use Rattle.std.proofs.lemmas.Bool.{and_parts, le-ltb}
use Rattle.std.proofs.lemmas.Bool.Decides.{nat_tests}
use Rattle.std.proofs.lemmas.Map.Lookups.{exact_bytes}
use Rattle.std.proofs.lemmas.Slice.Eq.{bytes_eq-Decides}
use Rattle.std.specs.Fmt.{decimal}
use Rattle.std.specs.Cmp.Lexicographic.{slice_cmp}
use Rattle.std.specs.Ordering.{match_ordering}
use Rattle.serde_json.specs.Data.{Data, Members, no_members, member, number, put, unsigned}
use Rattle.serde_json.specs.Find.{as_object}
use Rattle.tsb_step.specs.tsb_types.Lists.{run_from}
use Rattle.tsb_step.specs.tsb_plan.declared.object.Object.{Object}
use Rattle.tsb_step.specs.tsb_plan.declared.object.Object.TheVariants.{PedestrianDetectorCallPhase, OverlapType}
use Rattle.tsb_step.specs.tsb_plan.declared.version.Version.{Version}
use Rattle.tsb_step.specs.tsb_plan.declared.version.Version.TheVariants.{Two, Three}
use Rattle.tsb_step.specs.tsb_plan.Names.{object_named}
use Rattle.tsb_step.specs.tsb_plan.Objects.{objects}
use Rattle.tsb_step.specs.tsb_plan.Plan.{Plan, empty, with_value}
use Rattle.tsb_step.specs.tsb_plan.Versions.{has_object, indices_in, greatest_in}
use Rattle.tsb_step.proofs.tsb_plan.NameLemmas.{named_exact}
use Rattle.tsb_plan_text.specs.PlanErrors.{Error, no_such_object, no_such_index, object_not_a_table, not_a_whole_number, out_of_range, too_large}
use Rattle.tsb_plan_text.specs.PlanText.{limit, data_plan, checked, reading, or_fault, index_named, whole_number, with_entry, with_table, with_object, with_notes, with_member, with_members}
use Rattle.tsb_plan_text.proofs.SaysLemmas.{or_ok, then_ok, if_ok}
use Rattle.tsb_laws.specs.Texts.{IsOfVersion, renumbered}
use Rattle.tsb_laws.proofs.versions.TextLemmas.{read-in}

-- ## The same members

-- what is found among fewer numbers is found among more
found-longer : (test : ℕ → Bool) (a n m i : ℕ) → n ≤ m → find test (run_from a n) ≡ Some i → find test (run_from a m) ≡ Some i
unfolding run_from
found-longer test a zero m i few e = absurd cc
found-longer test a (suc n) zero i few e = absurd (omega (arith, few))
found-longer test a (suc n) (suc m) i few e = go (test a) (found-longer test (a + 1) n m i (omega (arith, few))) e
  where
    go : (b : Bool) → (find test (run_from (a + 1) n) ≡ Some i → find test (run_from (a + 1) m) ≡ Some i) →
        cond b (Some a) (find test (run_from (a + 1) n)) ≡ Some i → cond b (Some a) (find test (run_from (a + 1) m)) ≡ Some i
    go true later e = e
    go false later e = later e

index-later : (n m : ℕ) (text : List ℕ) (i : ℕ) → n ≤ m → index_named n text ≡ Some i → index_named m text ≡ Some i
unfolding index_named
index-later n m text i few e = found-longer (λ k. bytes_eq (decimal k) text) 1 n m i few e

-- version 2 has fewer indices, or as many
few-in-two : (o : Object) → indices_in Two o ≤ indices_in Three o
few-in-two PedestrianDetectorCallPhase = omega arith
few-in-two o = omega arith

-- and no greater value
low-in-two : (o : Object) → greatest_in Two o ≤ greatest_in Three o
low-in-two OverlapType = omega arith
low-in-two o = omega arith

value-later : (o : Object) (n : ℕ) (p q : Plan) (f : Error) → (if nat_le n (greatest_in Two o) then Ok p else Err f) ≡ Ok q →
    (if nat_le n (greatest_in Three o) then Ok p else Err f) ≡ Ok q
value-later o n p q f e = go (nat_le n (greatest_in Two o)) refl e
  where
    more : (a b : ℕ) → a ≤ b → nat_le n a ≡ true → nat_le n b ≡ true
    more a b few it = grind (arith, nat_tests, few, it)

    go : (b : Bool) → nat_le n (greatest_in Two o) ≡ b → (if b then Ok p else Err f) ≡ Ok q → (if nat_le n (greatest_in Three o) then Ok p else Err f) ≡ Ok q
    go true it h = rw (more (greatest_in Two o) (greatest_in Three o) (low-in-two o) it) h
    go false it h = absurd (grind (arith, h))

entry-by : (o : Object) (text : List ℕ) (d : Data) (p q : Plan) (i n : ℕ) → index_named (indices_in Three o) text ≡ Some i → whole_number d ≡ Some n →
    (if nat_le n (greatest_in Three o) then Ok (with_value p o i n) else Err (out_of_range o text)) ≡ Ok q → with_entry Three o text d p ≡ Ok q
unfolding with_entry
entry-by o text d p q i n at is e = rw (at, is) e

entry-later : (o : Object) (text : List ℕ) (d : Data) (p q : Plan) → with_entry Two o text d p ≡ Ok q → with_entry Three o text d p ≡ Ok q
unfolding with_entry
entry-later o text d p q e =
    let i = or_ok (index_named (indices_in Two o) text) (no_such_index o text) _ q e in
    let n = or_ok (whole_number d) (not_a_whole_number o text) _ q i.2 in
    entry-by o text d p q i.0 n.0 (index-later (indices_in Two o) (indices_in Three o) text i.0 (few-in-two o) i.1) n.1
    (value-later o n.0 (with_value p o i.0 n.0) q (out_of_range o text) n.2)

table-later : (o : Object) (table : Members) (p q : Plan) → with_table Two o table p ≡ Ok q → with_table Three o table p ≡ Ok q
table-later o no_members p q e = e
table-later o (member text d rest) p q e =
    let first = then_ok (with_entry Two o text d p) (with_table Two o rest) q e in
    rw (entry-later o text d p first.0 first.1) (table-later o rest first.0 q first.2)

member-by : (name : List ℕ) (d : Data) (p q : Plan) (o : Object) (table : Members) → object_named Three name ≡ Some o → as_object d ≡ Some table →
    with_table Two o table p ≡ Ok q →
    or_fault (object_named Three name) (no_such_object name) (λ o. or_fault (as_object d) (object_not_a_table o) (λ table. with_table Three o table p)) ≡ Ok q
member-by name d p q o table found is made = rw (found, is) (table-later o table p q made)

-- a member that names an object
object-later : (name : List ℕ) (d : Data) (p q : Plan) → with_object Two name d p ≡ Ok q → with_object Three name d p ≡ Ok q
unfolding with_object
object-later name d p q e =
    let o = or_ok (object_named Two name) (no_such_object name) _ q e in
    let t = or_ok (as_object d) (object_not_a_table o.0) _ q o.2 in
    let found : object_named Three name ≡ Some o.0 = (named_exact Three name o.0).1 (record { has = refl; name = ((named_exact Two name o.0).0 o.1).name }) in
    member-by name d p q o.0 t.0 found t.1 t.2

-- which the notes do not
no-notes : (d : Data) (p q : Plan) → with_object Two (codes "notes") d p ≡ Ok q → ⊥
unfolding with_object object_named objects
no-notes d p q e = cc

not-notes : (name : List ℕ) (d : Data) (p q : Plan) → with_object Two name d p ≡ Ok q → bytes_eq name (codes "notes") ≡ false
not-notes name d p q e = go (bytes_eq name (codes "notes")) refl
  where
    go : (b : Bool) → bytes_eq name (codes "notes") ≡ b → b ≡ false
    go false is = refl
    go true is = absurd (no-notes d p q (subst (λ (n : List ℕ). with_object Two n d p ≡ Ok q) ((bytes_eq-Decides name (codes "notes")).0 is) e))

-- what a member of version 2 gives, one of version 3 gives too
member-later : (name : List ℕ) (d : Data) (p q : Plan) → with_member Two name d p ≡ Ok q → with_member Three name d p ≡ Ok q
unfolding with_member
member-later name d p q e = judged (bytes_eq name (codes "version")) e
  where
    judged : (b : Bool) → (if b then Ok p else with_object Two name d p) ≡ Ok q →
        (if b then Ok p else (if bytes_eq name (codes "notes") then with_notes d p else with_object Three name d p)) ≡ Ok q
    judged true e = e
    judged false e = rw (not-notes name d p q e) (object-later name d p q e)

members-later : (ms : Members) (p q : Plan) → with_members Two ms p ≡ Ok q → with_members Three ms p ≡ Ok q
members-later no_members p q e = e
members-later (member name d rest) p q e =
    let first = then_ok (with_member Two name d p) (with_members Two rest) q e in
    rw (member-later name d p first.0 first.1) (members-later rest first.0 q first.2)

-- ## With another number

-- the member `version` is passed over
passed-over : (v : Version) (name : List ℕ) (d : Data) (p : Plan) → name ≡ codes "version" → with_member v name d p ≡ Ok p
unfolding with_member
passed-over v name d p same = rw ((bytes_eq-Decides name (codes "version")).1 same) refl

members-renumbered : (d : Data) (ms : Members) (p q : Plan) → with_members Two ms p ≡ Ok q → with_members Three (put (codes "version") d ms) p ≡ Ok q
members-renumbered d no_members p q e = rw (passed-over Three (codes "version") d p refl) e
members-renumbered d (member name old rest) p q e = go (λ r f. members-renumbered d rest r q f) (slice_cmp nat_cmp (codes "version") name) refl
  where
    go : ((r : Plan) → with_members Two rest r ≡ Ok q → with_members Three (put (codes "version") d rest) r ≡ Ok q) → (r : Ordering) → slice_cmp nat_cmp (codes "version") name ≡ r →
        with_members Three (match_ordering r (member (codes "version") d (member name old rest)) (member name d rest) (member name old (put (codes "version") d rest))) p ≡ Ok q
    go later Less is = rw (passed-over Three (codes "version") d p refl) (members-later (member name old rest) p q e)
    go later Equal is =
        let same : name ≡ codes "version" = sym (exact_bytes (codes "version") name is) in
        let first = then_ok (with_member Two name old p) (with_members Two rest) q e in
        let kept : p ≡ first.0 = if_ok true p first.0 too_large (sym (passed-over Two name old p same) ∙ first.1) in
        rw (passed-over Three name d p same) (members-later rest p q (subst (λ (r : Plan). with_members Two rest r ≡ Ok q) (sym kept) first.2))
    go later Greater is =
        let first = then_ok (with_member Two name old p) (with_members Two rest) q e in
        rw (member-later name old p first.0 first.1) (later first.0 first.2)

-- ## A text

pub renumbered-same : (text other : List ℕ) (members : Members) (plan : Plan) → IsOfVersion Two text members → reading text ≡ Ok plan →
    IsOfVersion Three other (renumbered members) → length other ≤ limit → reading other ≡ Ok plan
unfolding reading data_plan checked
renumbered-same text other members plan is e it le =
    let was = read-in Two text members plan is e in
    let short : nat_lt limit (length other) ≡ false = le-ltb limit (length other) le in
    let made : with_members Three (renumbered members) empty ≡ Ok plan = members-renumbered (number (unsigned 3)) members empty plan was.made in
    rw (short, it.is_json, it.is_table, it.tells, made, was.right) refl

pub none-later : (v : Version) (text : List ℕ) (members : Members) (plan : Plan) → IsOfVersion v text members → reading text ≡ Ok plan →
    (o : Object) (i : ℕ) → has_object v o ≡ false → plan.value o i ≡ 0
none-later v text members plan is e o i hasnt =
    (read-in v text members plan is e).these.elsewhere o i
    (λ k has at. true≢false (sym (and_parts (has_object v o) _ has).0 ∙ hasnt))
