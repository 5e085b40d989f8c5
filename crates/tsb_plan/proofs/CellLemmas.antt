-- The cells of a plan: each is of one object at one index.
use Rattle.std.proofs.Common.{suc, ◌≡◌, ℕ, ◌+◌, ◌-◌, ◌<◌, ◌≤◌, true, List, [], ◌∷◌, length, get_or, take, map, sum_by, refl, arith, sym, ◌∙◌, ap, inl, inr}
use Rattle.std.proofs.Math.ListN.{get_or-map}
use Rattle.std.proofs.lemmas.Bool.{cases_lt}
use Rattle.std.proofs.lemmas.Bool.Decides.{nat_tests}
use Rattle.std.proofs.lemmas.List.Sums.{sum_by-cons}
use Rattle.tsb_plan.specs.declared.object.Object.{Object}
use Rattle.tsb_plan.specs.declared.object.TheConstants.{PLAN_CELLS}
use Rattle.tsb_plan.specs.declared.object.TheConstants.Object.{COUNT}
use Rattle.tsb_plan.specs.declared.object.Object.TheVariants.{PhaseEnabled}
use Rattle.tsb_plan.specs.Laws.{IsCellOf}
use Rattle.tsb_types.specs.Lists.{run_from}
use Rattle.tsb_plan.specs.Objects.{objects, order, indices, first_cell, has_index}
use Rattle.tsb_plan.proofs.TableLemmas.{total, length-objects, order-injective, cell-of_one}
use Rattle.tsb_types.proofs.RunLemmas.{get_or-run_from}

pub share_no_cell : (cell : ℕ) (o p : Object) (i k : ℕ) → IsCellOf cell o i → IsCellOf cell p k → (o ≡ p) × (i ≡ k)
share_no_cell cell o p i k first second =
    let both : (order o ≡ order p) × (i ≡ k) = cell-of_one o p i k first.has second.has (first.at ∙ sym second.at) in
    (order-injective o p both.0, both.1)

-- the place of an object in a list whose numbers, one after the other, reach over n
record Reaches (f : Object → ℕ) (os : List Object) (n j : ℕ) : Type 0 where
  below : j < length os
  from : sum_by f (take j os) ≤ n
  over : n < sum_by f (take j os) + f (get_or os j PhaseEnabled)

reaching : (f : Object → ℕ) (os : List Object) (n : ℕ) → n < sum_by f os → (j : ℕ) × Reaches f os n j
reaching f [] n within = absurd (omega arith)
reaching f (x ∷ os) n within =
    elim (cases_lt n (f x)) [
      | inl here ↦ (0, record { below = omega arith; from = omega arith; over = omega arith })
      | inr beyond ↦
          let sum : sum_by f (x ∷ os) ≡ f x + sum_by f os = sum_by-cons f x os in
          let found : (j : ℕ) × Reaches f os (n - f x) j = reaching f os (n - f x) (omega arith) in
          let more : sum_by f (x ∷ take found.0 os) ≡ f x + sum_by f (take found.0 os) = sum_by-cons f x (take found.0 os) in
          let low : sum_by f (take found.0 os) ≤ n - f x = found.1.from in
          let high : n - f x < sum_by f (take found.0 os) + f (get_or os found.0 PhaseEnabled) = found.1.over in
          let short : found.0 < length os = found.1.below in
          (suc found.0, record { below = omega arith; from = rw more (omega arith); over = rw more (omega arith) })
    ]

pub orders : map order objects ≡ run_from 0 COUNT
unfolding objects run_from
orders = refl

order-at : (j : ℕ) → j < COUNT → order (get_or objects j PhaseEnabled) ≡ j
order-at j below =
    sym (get_or-map order objects j PhaseEnabled) ∙ ap (λ (ns : List ℕ). get_or ns j 0) orders ∙ get_or-run_from 0 COUNT j below
    ∙ (let e : 0 + j ≡ j = omega arith in e)

is_index : (o : Object) (k : ℕ) → k < indices o → has_index o (k + 1) ≡ true
is_index o k below = grind (arith, nat_tests)

pub leave_no_cell : (cell : ℕ) → cell < PLAN_CELLS → (o : Object) × ((i : ℕ) × IsCellOf cell o i)
unfolding first_cell
leave_no_cell cell within =
    let found : (j : ℕ) × Reaches indices objects cell j = reaching indices objects cell (rw total within) in
    let o : Object = get_or objects found.0 PhaseEnabled in
    let short : found.0 < COUNT = rw length-objects at found.1.below in
    let place : order o ≡ found.0 = order-at found.0 short in
    let before : first_cell o ≡ sum_by indices (take found.0 objects) = ap (λ (n : ℕ). sum_by indices (take n objects)) place in
    let low : sum_by indices (take found.0 objects) ≤ cell = found.1.from in
    let high : cell < sum_by indices (take found.0 objects) + indices o = found.1.over in
    (o, (cell - first_cell o + 1, record { has = is_index o (cell - first_cell o) (omega arith); at = omega arith }))
