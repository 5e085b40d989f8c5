-- The table of objects: each object has its place, and the cells of two objects do not meet.
use Rattle.std.proofs.Common.{zero, suc, ◌≡◌, ℕ, ◌+◌, ◌-◌, ◌<◌, ◌≤◌, true, List, [], ◌∷◌, length, slice_get, Some, get_or, take, sum_by, refl, arith, rules, sym, ◌∙◌, ap, subst, inl, inr}
use Rattle.std.proofs.lemmas.Bool.{cases_lt}
use Rattle.std.proofs.lemmas.List.Sums.{sum_by-cons}
use Rattle.std.proofs.lemmas.Bool.Decides.{nat_tests}
use Rattle.tsb_plan.specs.declared.object.Object.{Object}
use Rattle.tsb_plan.specs.declared.object.TheConstants.{PLAN_CELLS}
use Rattle.tsb_plan.specs.declared.object.TheConstants.Object.{COUNT}
use Rattle.tsb_plan.specs.declared.object.Object.TheVariants.{PhaseEnabled}
use Rattle.tsb_plan.specs.Objects.{objects, order, indices, first_cell, has_index}

pub at-order : (o : Object) → get_or objects (order o) PhaseEnabled ≡ o
unfolding objects
at-order o = search rules

pub found-order : (o : Object) → slice_get objects (order o) ≡ Some o
unfolding objects
found-order o = search rules

pub order-below : (o : Object) → order o < COUNT
order-below o = search rules

pub total : sum_by indices objects ≡ PLAN_CELLS
unfolding objects
total = refl

-- no object has many indices
pub few-indices : (o : Object) → indices o ≤ 256
few-indices o = search rules

pub length-objects : length objects ≡ COUNT
unfolding objects
length-objects = refl

pub order-injective : (o p : Object) → order o ≡ order p → o ≡ p
order-injective o p e = sym (at-order o) ∙ ap (λ (n : ℕ). get_or objects n PhaseEnabled) e ∙ at-order p

-- the cells before a place, and at it, are no more than those before a later place
sum-take : (f : Object → ℕ) (os : List Object) (j k : ℕ) → j < k → j < length os → sum_by f (take j os) + f (get_or os j PhaseEnabled) ≤ sum_by f (take k os)
sum-take f [] j k below within = absurd (omega arith)
sum-take f (x ∷ os) zero zero below within = absurd (omega arith)
sum-take f (x ∷ os) zero (suc k) below within = rw (sum_by-cons f x (take k os)) (omega arith)
sum-take f (x ∷ os) (suc j) zero below within = absurd (omega arith)
sum-take f (x ∷ os) (suc j) (suc k) below within =
    rw (sum_by-cons f x (take j os), sum_by-cons f x (take k os)) (omega (arith, sum-take f os j k (omega arith) (omega arith)))

take-whole : (os : List Object) (n : ℕ) → n ≡ length os → take n os ≡ os
take-whole [] zero e = refl
take-whole [] (suc n) e = absurd (omega arith)
take-whole (x ∷ os) zero e = absurd (omega arith)
take-whole (x ∷ os) (suc n) e = ap (λ (qs : List Object). x ∷ qs) (take-whole os n (omega arith))

counted : (o : Object) (k : ℕ) → order o < k → first_cell o + indices o ≤ sum_by indices (take k objects)
unfolding first_cell
counted o k below =
    let step : sum_by indices (take (order o) objects) + indices (get_or objects (order o) PhaseEnabled) ≤ sum_by indices (take k objects) =
    sum-take indices objects (order o) k below (rw length-objects (order-below o)) in
    subst (λ (q : Object). sum_by indices (take (order o) objects) + indices q ≤ sum_by indices (take k objects)) (at-order o) step

-- the cells of an object come before those of a later one
pub ends-before : (o p : Object) → order o < order p → first_cell o + indices o ≤ first_cell p
unfolding first_cell
ends-before o p below = counted o (order p) below

pub ends-within : (o : Object) → first_cell o + indices o ≤ PLAN_CELLS
ends-within o =
    let whole : sum_by indices (take COUNT objects) ≡ PLAN_CELLS = ap (sum_by indices) (take-whole objects COUNT (sym length-objects)) ∙ total in
    subst (λ (n : ℕ). first_cell o + indices o ≤ n) whole (counted o COUNT (order-below o))

-- an index that an object has, as bounds
pub index-bounds : (o : Object) (i : ℕ) → has_index o i ≡ true → (1 ≤ i) × (i ≤ indices o)
index-bounds o i h = (grind (arith, nat_tests), grind (arith, nat_tests))

pub cell-within : (o : Object) (i : ℕ) → has_index o i ≡ true → first_cell o + (i - 1) < PLAN_CELLS
cell-within o i h =
    let bounds : (1 ≤ i) × (i ≤ indices o) = index-bounds o i h in
    let within : first_cell o + indices o ≤ PLAN_CELLS = ends-within o in
    omega arith

-- one cell is of one object at one index
pub cell-of_one : (o p : Object) (i k : ℕ) → has_index o i ≡ true → has_index p k ≡ true →
    first_cell o + (i - 1) ≡ first_cell p + (k - 1) → (order o ≡ order p) × (i ≡ k)
cell-of_one o p i k h g e =
    let at : (1 ≤ i) × (i ≤ indices o) = index-bounds o i h in
    let to : (1 ≤ k) × (k ≤ indices p) = index-bounds p k g in
    elim (cases_lt (order o) (order p)) [
      | inl below ↦ let step : first_cell o + indices o ≤ first_cell p = ends-before o p below in absurd (omega arith)
      | inr above ↦
          elim (cases_lt (order p) (order o)) [
            | inl over ↦ let step : first_cell p + indices p ≤ first_cell o = ends-before p o over in absurd (omega arith)
            | inr not_over ↦
                let same : order o ≡ order p = omega arith in
                let cells : first_cell o ≡ first_cell p = ap first_cell (order-injective o p same) in
                let index : i ≡ k = omega arith in
                (same, index)
          ]
    ]
