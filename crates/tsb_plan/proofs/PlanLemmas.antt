-- The cells of a plan and the values that they hold.
use Rattle.std.proofs.Common.{◌≡◌, ◌≢◌, ℕ, ◌+◌, ◌-◌, ◌<◌, ◌≤◌, Bool, true, false, List, length, get_or, set, refl, arith, sym, subst, ◌∙◌, ap, if◌then◌else◌, nat_le, Some, None, Ok, Err}
use Rattle.std.proofs.Math.Path.{fun_ext}
use Rattle.std.proofs.lemmas.Bool.Decides.{nat_tests}
use Rattle.std.proofs.lemmas.List.{get_or-set_same, get_or-set_other}
use Rattle.tsb_types.specs.declared.refusal.Refusal.TheVariants.{NoSuchObject, OutOfRange}
use Rattle.tsb_plan.specs.declared.object.Object.{Object}
use Rattle.tsb_plan.specs.declared.object.TheConstants.{PLAN_CELLS}
use Rattle.tsb_plan.specs.declared.object.ObjectId.{ObjectId}
use Rattle.tsb_plan.specs.Plan.{Plan, all_counts, empty, with_value, is_same}
use Rattle.tsb_plan.specs.Objects.{value_in, has_index, first_cell, greatest, AreInRange, order}
use Rattle.tsb_plan.specs.PlanOf.{plan_in, got, put_refusal}
use Rattle.tsb_plan.proofs.TableLemmas.{cell-within, cell-of_one, order-injective}

if-same : (b : Bool) (x y : ℕ) → x ≡ y → (if b then x else y) ≡ y
if-same true x y e = e
if-same false x y e = refl

-- cells that are all 0
value-zeros : (cells : List ℕ) → ((k : ℕ) → get_or cells k 0 ≡ 0) → (o : Object) (i : ℕ) → value_in cells o i ≡ 0
value-zeros cells zeros o i = if-same (has_index o i) _ 0 (zeros (first_cell o + (i - 1)))

pub zeros-in_range : (cells : List ℕ) → ((k : ℕ) → get_or cells k 0 ≡ 0) → AreInRange cells
zeros-in_range cells zeros = record { each = λ o i. rw (value-zeros cells zeros o i) (omega arith) }

pub zeros-empty : (cells : List ℕ) → ((k : ℕ) → get_or cells k 0 ≡ 0) → plan_in cells ≡ empty
zeros-empty cells zeros =
    ap (λ (f : Object → ℕ → ℕ). let made : Plan = record { phase_count = 16; side_count = 4; counts = all_counts; value = f } in made)
    (fun_ext (λ o. fun_ext (λ i. value-zeros cells zeros o i)))

both_ways : false ≡ true → ⊥
both_ways e = cc

pub same-parts : (o p : Object) (i k : ℕ) → is_same o i p k ≡ true → (order o ≡ order p) × (i ≡ k)
same-parts o p i k e = (grind (arith, nat_tests), grind (arith, nat_tests))

apart-parts : (o p : Object) (i k : ℕ) → is_same o i p k ≡ false → (order o ≡ order p) × (i ≡ k) → ⊥
apart-parts o p i k e both = grind (arith, nat_tests, both.0, both.1)

-- a value put into the cell of one object and index is read there, and each other value is as it was
value-put : (cells : List ℕ) (o p : Object) (i k v : ℕ) → length cells ≡ PLAN_CELLS → has_index o i ≡ true →
    value_in (set cells (first_cell o + (i - 1)) v) p k ≡ (if is_same o i p k then v else value_in cells p k)
value-put cells o p i k v full has = go (has_index p k) refl (is_same o i p k) refl
  where
    go : (b : Bool) → has_index p k ≡ b → (same : Bool) → is_same o i p k ≡ same →
        (if b then get_or (set cells (first_cell o + (i - 1)) v) (first_cell p + (k - 1)) 0 else 0) ≡ (if same then v else (if b then get_or cells (first_cell p + (k - 1)) 0 else 0))
    go true other true it =
        let both : (order o ≡ order p) × (i ≡ k) = same-parts o p i k it in
        let object : o ≡ p = order-injective o p both.0 in
        let within : first_cell o + (i - 1) < PLAN_CELLS = cell-within o i has in
        let at : first_cell p + (k - 1) ≡ first_cell o + (i - 1) = ap (λ (q : Object). first_cell q + (k - 1)) (sym object) ∙ ap (λ (n : ℕ). first_cell o + (n - 1)) (sym both.1) in
        rw at (get_or-set_same cells (first_cell o + (i - 1)) v 0 (rw full within))
    go true other false it =
        get_or-set_other cells (first_cell o + (i - 1)) (first_cell p + (k - 1)) v 0
        (λ e. apart-parts o p i k it (cell-of_one o p i k has other (sym e)))
    go false other true it =
        let both : (order o ≡ order p) × (i ≡ k) = same-parts o p i k it in
        absurd (both_ways (sym other ∙ ap (λ (q : Object). has_index q k) (sym (order-injective o p both.0)) ∙ ap (has_index o) (sym both.1) ∙ has))
    go false other false it = refl

pub plan-put : (cells : List ℕ) (o : Object) (i v at : ℕ) → at ≡ first_cell o + (i - 1) → length cells ≡ PLAN_CELLS → has_index o i ≡ true →
    plan_in (set cells at v) ≡ with_value (plan_in cells) o i v
plan-put cells o i v at place full has =
    rw place (ap (λ (f : Object → ℕ → ℕ). let made : Plan = record { phase_count = 16; side_count = 4; counts = all_counts; value = f } in made)
    (fun_ext (λ p. fun_ext (λ k. value-put cells o p i k v full has))))

pub in_range-put : (cells : List ℕ) (o : Object) (i v at : ℕ) → at ≡ first_cell o + (i - 1) → length cells ≡ PLAN_CELLS → has_index o i ≡ true → v ≤ greatest o →
    AreInRange cells → AreInRange (set cells at v)
in_range-put cells o i v at place full has fits ranged = rw place (record { each = λ p k. rw (value-put cells o p i k v full has) (go p k (is_same o i p k) refl) })
  where
    go : (p : Object) (k : ℕ) (b : Bool) → is_same o i p k ≡ b → (if b then v else value_in cells p k) ≤ greatest p
    go p k true it = subst (λ (q : Object). v ≤ greatest q) (order-injective o p (same-parts o p i k it).0) fits
    go p k false it = ranged.each p k

pub same-itself : (o : Object) (i : ℕ) → is_same o i o i ≡ true
same-itself o i = grind (arith, nat_tests)

-- what is put, and what is given then
pub gives_back : (plan : Plan) (id : ObjectId) (v : ℕ) → put_refusal id v ≡ None → got (with_value plan id.object id.index v) id ≡ Ok v
gives_back plan id v fine = go (has_index id.object id.index) refl fine
  where
    go : (b : Bool) → has_index id.object id.index ≡ b → (if b then (if nat_le v (greatest id.object) then None else Some OutOfRange) else Some NoSuchObject) ≡ None →
        (if b then Ok (if is_same id.object id.index id.object id.index then v else plan.value id.object id.index) else Err NoSuchObject) ≡ Ok v
    go true has e = rw (same-itself id.object id.index) refl
    go false has e = cc

id-from : (a b : ObjectId) → a.object ≡ b.object → a.index ≡ b.index → a ≡ b
id-from a b e f =
    let made : Object → ℕ → ObjectId = λ o i. record { object = o; index = i } in
    ap (λ (o : Object). made o a.index) e ∙ ap (made b.object) f

pub leaves_others : (plan : Plan) (id other : ObjectId) (v : ℕ) → id ≢ other → got (with_value plan id.object id.index v) other ≡ got plan other
leaves_others plan id other v apart = go (is_same id.object id.index other.object other.index) refl
  where
    go : (b : Bool) → is_same id.object id.index other.object other.index ≡ b → got (with_value plan id.object id.index v) other ≡ got plan other
    go true is =
        let both : (order id.object ≡ order other.object) × (id.index ≡ other.index) = same-parts id.object other.object id.index other.index is in
        absurd (apart (id-from id other (order-injective id.object other.object both.0) both.1))
    go false is = rw is refl
