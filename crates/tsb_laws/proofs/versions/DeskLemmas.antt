-- Edits are laid over the wide plan at translated indices, and give the wide plan of what they give.
use Rattle.std.proofs.Common.{suc, ◌≡◌, ℕ, ◌+◌, ◌-◌, ◌*◌, ◌/◌, ◌%◌, ◌<◌, ◌≤◌, ◌==◌, nat_le, nat_lt, Bool, true, false, not, ◌&&◌, if◌then◌else◌, List, [], ◌∷◌, map, length, refl, arith, sym, ◌∙◌, ap, subst, inl, inr}
use Rattle.std.proofs.Math.Path.{fun_ext}
use Rattle.std.proofs.lemmas.Bool.{cases_Bool, and_parts, eqb-true}
use Rattle.std.proofs.lemmas.Bool.Decides.{nat_tests, same_from_decides}
use Rattle.tsb_step.specs.tsb_plan.declared.object.Object.{Object}
use Rattle.tsb_step.specs.tsb_plan.declared.object.ObjectId.{ObjectId}
use Rattle.tsb_step.specs.tsb_plan.declared.version.Version.TheVariants.{One}
use Rattle.tsb_step.specs.tsb_plan.Objects.{order}
use Rattle.tsb_step.specs.tsb_plan.Plan.{Plan, is_same, with_value}
use Rattle.tsb_step.specs.tsb_plan.Versions.{is_in_rows, has_object, has_index_in, indices_in, greatest_in, translated}
use Rattle.tsb_step.proofs.tsb_plan.TableLemmas.{order-injective}
use Rattle.tsb_step.specs.tsb_transact.declared.edit.Edit.{Edit}
use Rattle.tsb_step.specs.tsb_transact.Desk.{is_of, has_edit_of, with_edit, with_edits}
use Rattle.tsb_step.specs.tsb_transact.Commit.{changes, changes_some}
use Rattle.tsb_laws.specs.Widened.{IsNarrow, is_of_version_1, narrowed, widened_value, widened, widened_id, IsOfTable, AreOfTable, widened_edit}

-- ## Indices

-- an index of version 1 is at least 1
pub from-one : (o : Object) (i : ℕ) → has_index_in One o i ≡ true → 1 ≤ i
from-one o i has =
    let range : (nat_le 1 i && nat_le i (indices_in One o)) ≡ true = (and_parts (has_object One o) _ has).1 in
    let low : nat_le 1 i ≡ true = (and_parts (nat_le 1 i) _ range).0 in
    grind (arith, nat_tests, low)

abbrev pub row_index : ℕ → ℕ
row_index i = 16 * ((i - 1) / 8) + (i - 1) % 8 + 1

pub row_index-of : (i : ℕ) → is_of_version_1 (row_index i) ≡ true
row_index-of i = grind (arith, nat_tests)

pub row_index-back : (i : ℕ) → 1 ≤ i → narrowed (row_index i) ≡ i
row_index-back i from = omega arith

pub row_index-there : (k : ℕ) → is_of_version_1 k ≡ true → row_index (narrowed k) ≡ k
row_index-there k e =
    let parts : (nat_le 1 k ≡ true) × (nat_lt ((k - 1) % 16) 8 ≡ true) = and_parts (nat_le 1 k) _ e in
    let from : 1 ≤ k = grind (arith, nat_tests, parts.0) in
    let low : (k - 1) % 16 < 8 = grind (arith, nat_tests, parts.1) in
    omega arith

is-equal : (i k : ℕ) → i ≡ k → (i == k) ≡ true
is-equal i k e = grind (arith, nat_tests)

row_index-equal : (i k : ℕ) → 1 ≤ i → is_of_version_1 k ≡ true → (row_index i == k) ≡ (i == narrowed k)
row_index-equal i k from e =
    same_from_decides (row_index i == k) (i == narrowed k) (
      (λ h. is-equal i (narrowed k) (sym (row_index-back i from) ∙ ap narrowed (eqb-true (row_index i) k h))),
      (λ h. is-equal (row_index i) k (ap row_index (eqb-true i (narrowed k) h) ∙ row_index-there k e)),
    )
    ((λ h. h), (λ h. h))

row_index-other : (i k : ℕ) → is_of_version_1 k ≡ false → (row_index i == k) ≡ false
row_index-other i k e =
    elim (cases_Bool (row_index i == k)) [
      | inr other ↦ other
      | inl same ↦ (let on : is_of_version_1 k ≡ true = subst (λ n. is_of_version_1 n ≡ true) (eqb-true (row_index i) k same) (row_index-of i) in
          let no : false ≡ true = sym e ∙ on in absurd cc)
    ]

-- ## A value that is put

-- of another object, whatever the index
other-object : (o p : Object) (i k : ℕ) → (order o == order p) ≡ false → is_same o i p k ≡ false
other-object o p i k e = rw e refl

same-object : (o p : Object) → (order o == order p) ≡ true → o ≡ p
same-object o p e = order-injective o p (eqb-true (order o) (order p) e)

same-index : (o p : Object) (i k : ℕ) → (order o == order p) ≡ true → is_same o i p k ≡ (i == k)
same-index o p i k e = rw e refl

pub translated-row : (o : Object) (i : ℕ) → is_in_rows o ≡ true → translated One o i ≡ row_index i
translated-row o i rows = rw rows refl

pub translated-flat : (o : Object) (i : ℕ) → is_in_rows o ≡ false → translated One o i ≡ i
translated-flat o i flat = rw flat refl

-- whether a place of an object in rows is the one that an index becomes
row-same : (o p : Object) (i k : ℕ) → 1 ≤ i → is_in_rows p ≡ true → is_of_version_1 k ≡ true →
    is_same o (translated One o i) p k ≡ is_same o i p (narrowed k)
row-same o p i k from rows e =
    elim (cases_Bool (order o == order p)) [
      | inr other ↦ other-object o p (translated One o i) k other ∙ sym (other-object o p i (narrowed k) other)
      | inl same ↦ (let on : is_in_rows o ≡ true = ap is_in_rows (same-object o p same) ∙ rows in
          same-index o p (translated One o i) k same ∙ ap (λ n. n == k) (translated-row o i on) ∙ row_index-equal i k from e
          ∙ sym (same-index o p i (narrowed k) same))
    ]

row-other : (o p : Object) (i k : ℕ) → is_in_rows p ≡ true → is_of_version_1 k ≡ false → is_same o (translated One o i) p k ≡ false
row-other o p i k rows e =
    elim (cases_Bool (order o == order p)) [
      | inr other ↦ other-object o p (translated One o i) k other
      | inl same ↦ (let on : is_in_rows o ≡ true = ap is_in_rows (same-object o p same) ∙ rows in
          same-index o p (translated One o i) k same ∙ ap (λ n. n == k) (translated-row o i on) ∙ row_index-other i k e)
    ]

flat-same : (o p : Object) (i k : ℕ) → is_in_rows p ≡ false → is_same o (translated One o i) p k ≡ is_same o i p k
flat-same o p i k flat =
    elim (cases_Bool (order o == order p)) [
      | inr other ↦ other-object o p (translated One o i) k other ∙ sym (other-object o p i k other)
      | inl same ↦ (let off : is_in_rows o ≡ false = ap is_in_rows (same-object o p same) ∙ flat in
          ap (λ n. is_same o n p k) (translated-flat o i off))
    ]

-- the value of object p at index k, once v is put at index i of object o
put-same : (plan : Plan) (o : Object) (i v : ℕ) (p : Object) (k : ℕ) → 1 ≤ i →
    (if is_same o (translated One o i) p k then v else widened_value plan.value p k)
    ≡ widened_value (with_value plan o i v).value p k
put-same plan o i v p k from =
    elim (cases_Bool (is_in_rows p)) [
      | inr flat ↦ rw (flat, flat-same o p i k flat) refl
      | inl rows ↦ elim (cases_Bool (is_of_version_1 k)) [
        | inl e ↦ rw (rows, e, row-same o p i k from rows e) refl
        | inr e ↦ rw (rows, e, row-other o p i k rows e) refl
      ]
    ]

pub with_value-same : (plan : Plan) (o : Object) (i v : ℕ) → 1 ≤ i →
    with_value (widened plan) o (translated One o i) v ≡ widened (with_value plan o i v)
with_value-same plan o i v from =
    ap (λ (value : Object → ℕ → ℕ). made value) (fun_ext (λ p. fun_ext (λ k. put-same plan o i v p k from)))
  where
    made : (Object → ℕ → ℕ) → Plan
    made value = record { phase_count = 16; side_count = 4; counts = plan.counts; value = value }

-- the wide plan with all edits
pub with_edits-same : (plan : Plan) (es : List Edit) → AreOfTable es → with_edits (widened plan) (map widened_edit es) ≡ widened (with_edits plan es)
with_edits-same plan [] table = refl
with_edits-same plan (e ∷ es) table =
    ap (λ (q : Plan). with_edits q (map widened_edit es))
    (with_value-same plan e.id.object e.id.index e.value (from-one e.id.object e.id.index table.0.placed))
    ∙ with_edits-same (with_value plan e.id.object e.id.index e.value) es table.1

-- ## Plans of version 1 stay such

pub put-narrow : (plan : Plan) (o : Object) (i v : ℕ) → IsNarrow plan → has_index_in One o i ≡ true → v ≤ greatest_in One o →
    IsNarrow (with_value plan o i v)
put-narrow plan o i v narrow has low = record {
  phase_count = narrow.phase_count;
  side_count = narrow.side_count;
  counts = narrow.counts;
  placed = placed;
  bounded = bounded;
}
  where
    placed : (p : Object) (k : ℕ) → has_index_in One p k ≡ false → (with_value plan o i v).value p k ≡ 0
    placed p k out =
        elim (cases_Bool (is_same o i p k)) [
          | inr other ↦ rw other (narrow.placed p k out)
          | inl same ↦ (let parts : ((order o == order p) ≡ true) × ((i == k) ≡ true) = and_parts (order o == order p) (i == k) same in
              let it : has_index_in One p k ≡ true = subst (λ (x : Object). has_index_in One x k ≡ true) (same-object o p parts.0)
              (subst (λ n. has_index_in One o n ≡ true) (eqb-true i k parts.1) has) in
              let no : false ≡ true = sym out ∙ it in absurd cc)
        ]

    bounded : (p : Object) (k : ℕ) → (with_value plan o i v).value p k ≤ greatest_in One p
    bounded p k =
        elim (cases_Bool (is_same o i p k)) [
          | inr other ↦ rw other (narrow.bounded p k)
          | inl same ↦ rw same (subst (λ (x : Object). v ≤ greatest_in One x)
              (same-object o p (and_parts (order o == order p) (i == k) same).0) low)
        ]

pub edits-narrow : (plan : Plan) (es : List Edit) → IsNarrow plan → AreOfTable es → IsNarrow (with_edits plan es)
edits-narrow plan [] narrow table = narrow
edits-narrow plan (e ∷ es) narrow table =
    edits-narrow (with_value plan e.id.object e.id.index e.value) es
    (put-narrow plan e.id.object e.id.index e.value narrow table.0.placed table.0.bounded) table.1

-- ## Edits

-- two translated indices of one object are equal where the indices are
id-same : (o p : Object) (i k : ℕ) → 1 ≤ i → 1 ≤ k → is_same o (translated One o i) p (translated One p k) ≡ is_same o i p k
id-same o p i k from at =
    elim (cases_Bool (is_in_rows p)) [
      | inr flat ↦ flat-same o p i (translated One p k) flat ∙ ap (λ n. is_same o i p n) (translated-flat p k flat)
      | inl rows ↦ ap (λ n. is_same o (translated One o i) p n) (translated-row p k rows)
          ∙ row-same o p i (row_index k) from rows (row_index-of k) ∙ ap (λ n. is_same o i p n) (row_index-back k at)
    ]

is_of-same : (id : ObjectId) (e : Edit) → 1 ≤ id.index → 1 ≤ e.id.index → is_of (widened_id id) (widened_edit e) ≡ is_of id e
is_of-same id e from at = id-same id.object e.id.object id.index e.id.index from at

pub has_edit_of-same : (id : ObjectId) (es : List Edit) → 1 ≤ id.index → AreOfTable es →
    has_edit_of (widened_id id) (map widened_edit es) ≡ has_edit_of id es
has_edit_of-same id [] from table = refl
has_edit_of-same id (e ∷ es) from table =
    rw (is_of-same id e from (from-one e.id.object e.id.index table.0.placed), has_edit_of-same id es from table.1) refl

pub with_edit-same : (e : Edit) (es : List Edit) → IsOfTable e.id e.value → AreOfTable es →
    with_edit (widened_edit e) (map widened_edit es) ≡ map widened_edit (with_edit e es)
with_edit-same e [] it table = refl
with_edit-same e (x ∷ xs) it table =
    elim (cases_Bool (is_of e.id x)) [
      | inl same ↦ rw (is_of-same e.id x (from-one e.id.object e.id.index it.placed) (from-one x.id.object x.id.index table.0.placed), same) refl
      | inr other ↦ rw (
        is_of-same e.id x (from-one e.id.object e.id.index it.placed) (from-one x.id.object x.id.index table.0.placed),
        other,
        with_edit-same e xs it table.1,
      ) refl
    ]

pub with_edit-table : (e : Edit) (es : List Edit) → IsOfTable e.id e.value → AreOfTable es → AreOfTable (with_edit e es)
with_edit-table e [] it table = (it, tt)
with_edit-table e (x ∷ xs) it table = go (is_of e.id x) (with_edit-table e xs it table.1)
  where
    go : (b : Bool) → AreOfTable (with_edit e xs) → AreOfTable (if b then e ∷ xs else x ∷ with_edit e xs)
    go true rest = (it, table.1)
    go false rest = (table.0, rest)

pub length-same : (es : List Edit) → length (map widened_edit es) ≡ length es
length-same [] = refl
length-same (e ∷ es) = ap suc (length-same es)

-- ## Changes

pub value-same : (plan : Plan) (o : Object) (i : ℕ) → 1 ≤ i → (widened plan).value o (translated One o i) ≡ plan.value o i
value-same plan o i from =
    elim (cases_Bool (is_in_rows o)) [
      | inr flat ↦ rw flat refl
      | inl rows ↦ rw (rows, row_index-of i, row_index-back i from) refl
    ]

changes-same : (plan : Plan) (e : Edit) → 1 ≤ e.id.index → changes (widened plan) (widened_edit e) ≡ changes plan e
changes-same plan e from = ap (λ n. not (n == e.value)) (value-same plan e.id.object e.id.index from)

pub changes_some-same : (test : Object → Bool) (plan : Plan) (es : List Edit) → AreOfTable es →
    changes_some test (widened plan) (map widened_edit es) ≡ changes_some test plan es
changes_some-same test plan [] table = refl
changes_some-same test plan (e ∷ es) table =
    rw (changes-same plan e (from-one e.id.object e.id.index table.0.placed), changes_some-same test plan es table.1) refl
