-- The edits of a desk are one for each object at each index, whatever the run; so a commit changes values exactly where the
-- plan after it differs from the plan before it.
use Rattle.std.proofs.Common.{◌≡◌, ℕ, ◌==◌, Bool, true, false, not, ◌&&◌, ◌||◌, List, [], ◌∷◌, refl, sym, ap, ◌∙◌, inl, inr, arith}
use Rattle.std.proofs.lemmas.Bool.{cases_Bool, and_from, and_parts, and_left, and_right, or_from, eqb-true}
use Rattle.std.proofs.lemmas.Bool.Decides.{nat_tests}
use Rattle.tsb_objects.specs.tsb_plan.declared.object.Object.{Object}
use Rattle.tsb_objects.specs.tsb_plan.declared.object.ObjectId.{ObjectId}
use Rattle.tsb_objects.specs.tsb_plan.Objects.{order}
use Rattle.tsb_objects.specs.tsb_plan.Plan.{Plan, is_same, with_value}
use Rattle.tsb_transact.specs.declared.edit.Edit.{Edit}
use Rattle.tsb_transact.specs.Desk.{is_of, has_edit_of, with_edit, with_edits}
use Rattle.tsb_transact.specs.Commit.{changes, changes_some}
use Rattle.tsb_step.proofs.EditLemmas.{or_false, kept}

-- ## Places

abbrev same_place : ObjectId → ObjectId → Bool
same_place a b = is_same a.object a.index b.object b.index

pub equal_turned : (m n : ℕ) → (m == n) ≡ (n == m)
equal_turned m n = grind (arith, nat_tests)

turned : (a b : ObjectId) → same_place a b ≡ same_place b a
turned a b =
    ap2 (order a.object == order b.object) _ _ _
    (equal_turned (order a.object) (order b.object)) (equal_turned a.index b.index)
  where
    ap2 : (x y z w : Bool) → x ≡ z → y ≡ w → (x && y) ≡ (z && w)
    ap2 x y z w e f = cc

itself : (a : ObjectId) → same_place a a ≡ true
itself a =
    and_from (order a.object == order a.object) (a.index == a.index) (grind (arith, nat_tests)) (grind (arith, nat_tests))

-- of two that are one place, a third is the place of both or of neither
same_as_both : (a b c : ObjectId) → same_place a b ≡ true → same_place a c ≡ same_place b c
same_as_both a b c same =
    let parts = and_parts (order a.object == order b.object) (a.index == b.index) same in
    rw (eqb-true (order a.object) (order b.object) parts.0, eqb-true a.index b.index parts.1) refl

-- ## One edit for each

abbrev pub AreOnce : List Edit → Type 0
AreOnce [] = Unit {0}
AreOnce (e ∷ es) = (has_edit_of e.id es ≡ false) × AreOnce es

named_as_both : (a b : ObjectId) (es : List Edit) → same_place a b ≡ true → has_edit_of a es ≡ has_edit_of b es
named_as_both a b [] same = refl
named_as_both a b (e ∷ es) same =
    ap2 (is_of a e) (has_edit_of a es) (is_of b e) (has_edit_of b es) (same_as_both a b e.id same) (named_as_both a b es same)
  where
    ap2 : (x y z w : Bool) → x ≡ z → y ≡ w → (x || y) ≡ (z || w)
    ap2 x y z w e f = cc

-- an edit that joins the others is not of another place
still_none : (id : ObjectId) (e : Edit) (es : List Edit) → is_of id e ≡ false → has_edit_of id es ≡ false →
    has_edit_of id (with_edit e es) ≡ false
still_none id e [] other none = or_from (is_of id e) false other refl
still_none id e (x ∷ xs) other none =
    let parts = or_false (is_of id x) (has_edit_of id xs) none in
    elim (cases_Bool (is_of e.id x)) [
      | inl same ↦ rw same (or_from (is_of id e) (has_edit_of id xs) other parts.1)
      | inr apart ↦ rw apart (or_from (is_of id x) (has_edit_of id (with_edit e xs)) parts.0 (still_none id e xs other parts.1))
    ]

pub once_with : (e : Edit) (es : List Edit) → AreOnce es → AreOnce (with_edit e es)
once_with e [] once = (refl, tt)
once_with e (x ∷ xs) once =
    elim (cases_Bool (is_of e.id x)) [
      | inl same ↦ rw same (named_as_both e.id x.id xs same ∙ once.0, once.1)
      | inr apart ↦ rw apart (still_none x.id e xs (turned x.id e.id ∙ apart) once.0, once_with e xs once.1)
    ]

-- ## What edits show of themselves

-- edits of other places leave a place
untouched : (id : ObjectId) (base : Plan) (es : List Edit) → has_edit_of id es ≡ false →
    (with_edits base es).value id.object id.index ≡ base.value id.object id.index
untouched id base [] none = refl
untouched id base (e ∷ es) none =
    let parts = or_false (is_of id e) (has_edit_of id es) none in
    let apart : same_place e.id id ≡ false = turned e.id id ∙ parts.0 in
    untouched id (with_value base e.id.object e.id.index e.value) es parts.1 ∙ rw apart refl

-- an edit that is put, once, stays
stands : (base : Plan) (e : Edit) (es : List Edit) → has_edit_of e.id es ≡ false →
    (with_edits base (e ∷ es)).value e.id.object e.id.index ≡ e.value
stands base e es none =
    untouched e.id (with_value base e.id.object e.id.index e.value) es none ∙ rw (itself e.id) refl

-- where the objects that pass a test have the plan's values with the edits, no edit of them is a change
shows : (test : Object → Bool) (plan base : Plan) (es : List Edit) → AreOnce es →
    ((o : Object) (i : ℕ) → test o ≡ true → (with_edits base es).value o i ≡ plan.value o i) →
    changes_some test plan es ≡ false
shows test plan base [] once same = refl
shows test plan base (e ∷ es) once same =
    or_from (test e.id.object && changes plan e) (changes_some test plan es)
    (elim (cases_Bool (test e.id.object)) [
      | inr fails ↦ and_left (test e.id.object) (changes plan e) fails
      | inl passes ↦ and_right (test e.id.object) (changes plan e)
          (no_change (plan.value e.id.object e.id.index) e.value
          (sym (same e.id.object e.id.index passes) ∙ stands base e es once.0))
    ])
    (shows test plan (with_value base e.id.object e.id.index e.value) es once.1 same)
  where
    no_change : (m n : ℕ) → m ≡ n → not (m == n) ≡ false
    no_change m n same = grind (arith, nat_tests, same)

-- so the plan with the edits shows whether they change it
still_unchanged : (test : Object → Bool) (plan : Plan) (es fs : List Edit) → AreOnce fs →
    with_edits plan es ≡ with_edits plan fs → changes_some test plan es ≡ false → changes_some test plan fs ≡ false
still_unchanged test plan es fs once same unchanged =
    shows test plan plan fs once
    (λ o i passes. ap (λ x. x.value o i) (sym same) ∙ kept test plan es unchanged o i passes)

pub change_alike : (test : Object → Bool) (plan : Plan) (es fs : List Edit) → AreOnce es → AreOnce fs →
    with_edits plan es ≡ with_edits plan fs → changes_some test plan es ≡ changes_some test plan fs
change_alike test plan es fs once also same =
    alike (changes_some test plan es) (changes_some test plan fs) (still_unchanged test plan es fs also same)
    (still_unchanged test plan fs es once (sym same))
  where
    alike : (b c : Bool) → (b ≡ false → c ≡ false) → (c ≡ false → b ≡ false) → b ≡ c
    alike true true on back = refl
    alike false false on back = refl
    alike false true on back = sym (on refl)
    alike true false on back = back refl
