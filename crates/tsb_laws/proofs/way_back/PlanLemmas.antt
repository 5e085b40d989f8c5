-- The cells of a plan are read as the plan, and a commit leaves a plan such as the program holds.
use Rattle.std.proofs.Common.{zero, suc, ◌≡◌, ℕ, ◌+◌, ◌-◌, ◌<◌, ◌≤◌, ◌==◌, ◌&&◌, nat_le, if◌then◌else◌, Bool, true, false, List, [], ◌∷◌, length, get_or, map, refl, sym, ap, ap₂, subst, arith, ◌∙◌, inl, inr}
use Rattle.std.specs.List.{flat_map}
use Rattle.std.proofs.Math.Path.{fun_ext}
use Rattle.std.proofs.lemmas.Bool.{cases_Bool, and_parts, eqb-true, leb-true, cond-true, cond-false}
use Rattle.std.proofs.lemmas.List.{length-map, get_or-map, get_or-append-add}
use Rattle.std.proofs.Math.ListN.{get_or-append}
use Rattle.tsb_step.specs.tsb_types.Lists.{run_from}
use Rattle.tsb_step.proofs.tsb_types.RunLemmas.{length-run_from, get_or-run_from}
use Rattle.tsb_step.specs.tsb_plan.declared.object.Object.{Object}
use Rattle.tsb_step.specs.tsb_plan.declared.object.Object.TheVariants.{PhaseEnabled}
use Rattle.tsb_step.specs.tsb_plan.Objects.{objects, order, indices, first_cell, has_index, greatest, value_in}
use Rattle.tsb_step.specs.tsb_plan.Plan.{Plan, Counts, is_same, with_value}
use Rattle.tsb_step.specs.tsb_plan.PlanOf.{plan_in, plan_cells, plan_of}
use Rattle.tsb_step.proofs.tsb_plan.TableLemmas.{at-order, order-below, length-objects, order-injective}
use Rattle.tsb_step.proofs.tsb_plan.PlanLemmas.{same-parts}
use Rattle.tsb_step.proofs.tsb_plan.ToldLemmas.{are_placed, all_placed}
use Rattle.tsb_step.specs.tsb_transact.declared.edit.Edit.{Edit}
use Rattle.tsb_step.specs.tsb_transact.Desk.{with_edits}
use Rattle.tsb_step.proofs.tsb_transact.DeskLemmas.{value-taken}
use Rattle.tsb_step.specs.tsb_objects.declared.checked.Checked.{Checked}
use Rattle.tsb_step.specs.tsb_objects.Checked.{checked_plan}
use Rattle.tsb_step.specs.Good.{AreFit}
use Rattle.tsb_step.specs.Laws.{IsWide}
use Rattle.tsb_step.specs.Tables.{has_place, indices_for, greatest_for}
use Rattle.tsb_step.proofs.PlaceLemmas.{same_indices, same_greatest, memory_is_consistent, same_refusal}
use Rattle.tsb_laws.specs.AllRed.{IsInRange}
use Rattle.tsb_laws.specs.Runs.{IsHeld}

-- ## The cells of objects, one after the other

abbrev cells_from : (Object → ℕ → ℕ) → List Object → List ℕ
cells_from v os = flat_map (λ o. map (v o) (run_from 1 (indices o))) os

behind : (os : List Object) (k j : ℕ) → are_placed k os ≡ true → j < length os → k ≤ first_cell (get_or os j PhaseEnabled)
behind [] k j placed below = absurd (omega (arith, below))
behind (o ∷ os) k zero placed below =
    let at : first_cell o ≡ k = eqb-true (first_cell o) k (and_parts (first_cell o == k) (are_placed (k + indices o) os) placed).0 in
    omega (arith, at)
behind (o ∷ os) k (suc j) placed below =
    let rest : are_placed (k + indices o) os ≡ true = (and_parts (first_cell o == k) (are_placed (k + indices o) os) placed).1 in
    let on : k + indices o ≤ first_cell (get_or os j PhaseEnabled) = behind os (k + indices o) j rest (omega (arith, below)) in
    omega (arith, on)

-- the cells of one object
column : (v : Object → ℕ → ℕ) (o : Object) → length (map (v o) (run_from 1 (indices o))) ≡ indices o
column v o = length-map (run_from 1 (indices o)) (v o) ∙ length-run_from 1 (indices o)

one-read : (v : Object → ℕ → ℕ) (o : Object) (i : ℕ) → 1 ≤ i → i ≤ indices o → get_or (map (v o) (run_from 1 (indices o))) (i - 1) 0 ≡ v o i
one-read v o i from to =
    let below : i - 1 < length (run_from 1 (indices o)) = omega (arith, from, to, length-run_from 1 (indices o)) in
    let number : 1 + (i - 1) ≡ i = omega (arith, from) in
    get_or-map (v o) (run_from 1 (indices o)) (i - 1) 0 0 below
    ∙ ap (v o) (get_or-run_from 1 (indices o) (i - 1) (omega (arith, from, to)) ∙ number)

object-read : (v : Object → ℕ → ℕ) (os : List Object) (k j i : ℕ) → are_placed k os ≡ true → j < length os → 1 ≤ i →
    i ≤ indices (get_or os j PhaseEnabled) →
    get_or (cells_from v os) (first_cell (get_or os j PhaseEnabled) + (i - 1) - k) 0 ≡ v (get_or os j PhaseEnabled) i
object-read v [] k j i placed below from to = absurd (omega (arith, below))
object-read v (o ∷ os) k zero i placed below from to =
    let at : first_cell o ≡ k = eqb-true (first_cell o) k (and_parts (first_cell o == k) (are_placed (k + indices o) os) placed).0 in
    let own : i ≤ indices o = to in
    let here : first_cell o + (i - 1) - k ≡ i - 1 = omega (arith, at) in
    ap (λ (n : ℕ). get_or (cells_from v (o ∷ os)) n 0) here
    ∙ get_or-append (map (v o) (run_from 1 (indices o))) (cells_from v os) 0 (i - 1) (omega (arith, from, own, column v o))
    ∙ one-read v o i from own
object-read v (o ∷ os) k (suc j) i placed below from to =
    let rest : are_placed (k + indices o) os ≡ true = (and_parts (first_cell o == k) (are_placed (k + indices o) os) placed).1 in
    let short : j < length os = omega (arith, below) in
    let far : k + indices o ≤ first_cell (get_or os j PhaseEnabled) = behind os (k + indices o) j rest short in
    let here : first_cell (get_or os j PhaseEnabled) + (i - 1) - k
    ≡ length (map (v o) (run_from 1 (indices o))) + (first_cell (get_or os j PhaseEnabled) + (i - 1) - (k + indices o)) =
    omega (arith, far, column v o) in
    ap (λ (n : ℕ). get_or (cells_from v (o ∷ os)) n 0) here
    ∙ get_or-append-add (map (v o) (run_from 1 (indices o))) (cells_from v os) (first_cell (get_or os j PhaseEnabled) + (i - 1) - (k + indices o)) 0
    ∙ object-read v os (k + indices o) j i rest short from to

cell-read : (v : Object → ℕ → ℕ) (o : Object) (i : ℕ) → has_index o i ≡ true → get_or (cells_from v objects) (first_cell o + (i - 1)) 0 ≡ v o i
cell-read v o i has =
    subst (λ (q : Object). get_or (cells_from v objects) (first_cell q + (i - 1)) 0 ≡ v q i) (at-order o)
    (ap (λ (n : ℕ). get_or (cells_from v objects) n 0) none
    ∙ object-read v objects 0 (order o) i all_placed within (from i (and_parts (nat_le 1 i) (nat_le i (indices o)) has).0)
    (subst (λ (q : Object). i ≤ indices q) (sym (at-order o)) (to i (indices o) (and_parts (nat_le 1 i) (nat_le i (indices o)) has).1)))
  where
    none : first_cell (get_or objects (order o) PhaseEnabled) + (i - 1) ≡ first_cell (get_or objects (order o) PhaseEnabled) + (i - 1) - 0
    none = omega arith

    within : order o < length objects
    within = rw length-objects (order-below o)

    from : (n : ℕ) → nat_le 1 n ≡ true → 1 ≤ n
    from n h = leb-true 1 n h

    to : (m n : ℕ) → nat_le m n ≡ true → m ≤ n
    to m n h = leb-true m n h

-- ## A plan and its cells

plan-with : ℕ → ℕ → Counts → (Object → ℕ → ℕ) → Plan
plan-with n d counts value = record { phase_count = n; side_count = d; counts = counts; value = value }

value-read : (plan : Plan) → ((o : Object) (i : ℕ) → has_index o i ≡ false → plan.value o i ≡ 0) → (o : Object) (i : ℕ) →
    value_in (plan_cells plan) o i ≡ plan.value o i
value-read plan none o i =
    elim (cases_Bool (has_index o i)) [
      | inl has ↦ cond-true (has_index o i) (get_or (plan_cells plan) (first_cell o + (i - 1)) 0) 0 has ∙ cell-read plan.value o i has
      | inr out ↦ cond-false (has_index o i) (get_or (plan_cells plan) (first_cell o + (i - 1)) 0) 0 out ∙ sym (none o i out)
    ]

pub plan-read : (plan : Plan) → IsHeld plan → plan_in (plan_cells plan) ≡ plan
unfolding plan-with
plan-read plan held =
    ap₂ (plan-with 16 4) (sym held.counts) (fun_ext (λ o. fun_ext (λ i. value-read plan none o i)))
    ∙ ap₂ (λ (n d : ℕ). plan-with n d plan.counts plan.value) (sym held.phases) (sym held.sides)
  where
    none : (o : Object) (i : ℕ) → has_index o i ≡ false → plan.value o i ≡ 0
    none o i out =
        let off : has_place plan o i ≡ false =
        ap₂ (λ (n : ℕ) (counts : Counts). nat_le 1 i && nat_le i (indices_for n counts o)) held.phases held.counts
        ∙ ap (λ (n : ℕ). nat_le 1 i && nat_le i n) (same_indices o) ∙ out in
        held.consistent.placed o i off

-- ## Plans that the program holds

pub is_wide : (plan : Plan) → IsHeld plan → IsWide plan
is_wide plan held = record { phases = held.phases; sides = held.sides; counts = held.counts }

pub bounded-with : (plan : Plan) (es : List Edit) → IsWide plan → AreFit plan es → (base : Plan) →
    ((o : Object) (i : ℕ) → base.value o i ≤ greatest o) → (o : Object) (i : ℕ) → (with_edits base es).value o i ≤ greatest o
bounded-with plan [] wide fit base bounded o i = bounded o i
bounded-with plan (e ∷ es) wide fit base bounded o i =
    bounded-with plan es wide fit.1 (with_value base e.id.object e.id.index e.value) (λ p k. at p k (is_same e.id.object e.id.index p k) refl) o i
  where
    fits : e.value ≤ greatest e.id.object
    fits = value-taken e.id e.value (sym (same_refusal plan e.id e.value wide) ∙ fit.0)

    at : (p : Object) (k : ℕ) (b : Bool) → is_same e.id.object e.id.index p k ≡ b → (if b then e.value else base.value p k) ≤ greatest p
    at p k true it = subst (λ (q : Object). e.value ≤ greatest q) (order-injective e.id.object p (same-parts e.id.object p e.id.index k it).0) fits
    at p k false it = bounded p k

pub checked_is_held : (checked : Checked) → IsHeld (checked_plan checked)
unfolding checked_plan plan_of
checked_is_held checked = record {
  consistent = memory_is_consistent checked.plan checked.passed;
  phases = refl;
  sides = refl;
  counts = refl;
  bounded = λ o i. checked.plan.ranged.each o i;
}

-- with 16 phases and 4 sides the greatest values are those of the table of objects
pub held_in_range : (plan : Plan) → IsHeld plan → IsInRange plan
held_in_range plan held o i =
    let most : plan.value o i ≤ greatest_for 16 4 o = rw (same_greatest o) (held.bounded o i) in
    rw (held.phases, held.sides) most
