-- The cells of a plan are the table of what it says.
use Rattle.std.proofs.Common.{◌≡◌, ℕ, ◌+◌, ◌-◌, ◌<◌, ◌≤◌, ◌==◌, ◌&&◌, Bool, true, List, [], ◌∷◌, ◌++◌, length, get_or, take, drop, map, sum_by, refl, sym, ap, arith, ◌∙◌, take_all}
use Rattle.std.proofs.lemmas.Bool.{cond-true}
use Rattle.std.proofs.lemmas.Bool.Decides.{nat_tests}
use Rattle.std.proofs.lemmas.List.{length-map, length-take-le, length-drop, places, same_lists}
use Rattle.std.proofs.lemmas.List.Concat.{length-flat_map}
use Rattle.std.proofs.lemmas.List.Sums.{sum_by-cons}
use Rattle.std.proofs.Math.Path.{fun_ext}
use Rattle.std.specs.List.{flat_map}
use Rattle.tsb_plan.specs.declared.object.Object.{Object}
use Rattle.tsb_plan.specs.declared.object.TheConstants.{PLAN_CELLS}
use Rattle.tsb_types.specs.Lists.{run_from}
use Rattle.tsb_plan.specs.Objects.{objects, indices, first_cell, has_index, value_in}
use Rattle.tsb_plan.specs.Plan.{Plan}
use Rattle.tsb_plan.specs.PlanOf.{plan_in, plan_cells}
use Rattle.tsb_types.proofs.RunLemmas.{length-run_from, map-run_from}
use Rattle.tsb_plan.proofs.TableLemmas.{total}

-- each object has as many cells as indices
pub length-plan_cells : (plan : Plan) → length (plan_cells plan) ≡ PLAN_CELLS
length-plan_cells plan =
    length-flat_map (λ o. map (plan.value o) (run_from 1 (indices o))) objects
    ∙ ap (λ (f : Object → ℕ). sum_by f objects) (fun_ext (λ o. length-map (run_from 1 (indices o)) (plan.value o) ∙ length-run_from 1 (indices o)))
    ∙ total

-- the cells of these objects stand one after the other, from the cell k on
abbrev pub are_placed : ℕ → List Object → Bool
are_placed k [] = true
are_placed k (o ∷ os) = (first_cell o == k) && are_placed (k + indices o) os

pub all_placed : are_placed 0 objects ≡ true
unfolding objects first_cell
all_placed = refl

-- the cells of one object
one_object : (cells : List ℕ) (o : Object) (k : ℕ) → first_cell o ≡ k → k + indices o ≤ length cells →
    map (value_in cells o) (run_from 1 (indices o)) ≡ take (indices o) (drop k cells)
one_object cells o k at within =
    sym (map-run_from (value_in cells o) 1 (indices o) (take (indices o) (drop k cells))
    (length-take-le (indices o) (drop k cells) (omega (arith, length-drop k cells))) each)
  where
    each : (j : ℕ) → j < indices o → get_or (take (indices o) (drop k cells)) j 0 ≡ value_in cells o (1 + j)
    each j below =
        let has : has_index o (1 + j) ≡ true = grind (arith, nat_tests) in
        let place : k + j ≡ first_cell o + (1 + j - 1) = omega arith in
        let here : get_or (take (indices o) (drop k cells)) j 0 ≡ get_or cells (k + j) 0 = grind (arith, places) in
        here ∙ ap (λ (n : ℕ). get_or cells n 0) place ∙ sym (cond-true (has_index o (1 + j)) (get_or cells (first_cell o + (1 + j - 1)) 0) 0 has)

joined : (a b k : ℕ) (cells : List ℕ) → k + a + b ≤ length cells → take a (drop k cells) ++ take b (drop (k + a) cells) ≡ take (a + b) (drop k cells)
joined a b k cells within = same_lists _ _ (search (arith, places)) (λ i d h. grind (arith, places))

some_objects : (cells : List ℕ) (os : List Object) (k : ℕ) → are_placed k os ≡ true → k + sum_by indices os ≤ length cells →
    flat_map (λ o. map (value_in cells o) (run_from 1 (indices o))) os ≡ take (sum_by indices os) (drop k cells)
some_objects cells [] k placed within = refl
some_objects cells (o ∷ os) k placed within =
    let sum : sum_by indices (o ∷ os) ≡ indices o + sum_by indices os = sum_by-cons indices o os in
    let at : first_cell o ≡ k = grind (arith, nat_tests) in
    let rest : are_placed (k + indices o) os ≡ true = grind (arith, nat_tests) in
    let first = one_object cells o k at (omega arith) in
    let others = some_objects cells os (k + indices o) rest (omega arith) in
    ap (λ (xs : List ℕ). xs ++ flat_map (λ p. map (value_in cells p) (run_from 1 (indices p))) os) first
    ∙ ap (λ (xs : List ℕ). take (indices o) (drop k cells) ++ xs) others
    ∙ joined (indices o) (sum_by indices os) k cells (omega arith)
    ∙ ap (λ (n : ℕ). take n (drop k cells)) (sym sum)

pub plan_cells-plan_in : (cells : List ℕ) → length cells ≡ PLAN_CELLS → plan_cells (plan_in cells) ≡ cells
plan_cells-plan_in cells full =
    let enough : 0 + sum_by indices objects ≤ length cells = omega (arith, total) in
    some_objects cells objects 0 all_placed enough ∙ take_all (sum_by indices objects) cells (omega (arith, total))
