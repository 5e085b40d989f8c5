-- Each input is refused in both benches for one cause, or in neither.
use Rattle.std.proofs.Common.{zero, suc, ◌≡◌, ℕ, ◌+◌, ◌-◌, ◌*◌, ◌/◌, ◌%◌, ◌<◌, ◌≤◌, ◌==◌, nat_le, Bool, true, false, not, ◌&&◌, ◌||◌, if◌then◌else◌, List, [], ◌∷◌, length, get_or, None, is_some, refl, arith, ap, subst, inl, inr}
use Rattle.std.specs.List.{list_all}
use Rattle.std.proofs.lemmas.Bool.{cases_Bool, and_parts, eqb-true}
use Rattle.std.proofs.lemmas.Bool.Decides.{nat_tests}
use Rattle.tsb_step.specs.tsb_types.Intervals.{in_service}
use Rattle.tsb_step.specs.tsb_plan.declared.object.Object.{Object}
use Rattle.tsb_step.specs.tsb_plan.declared.object.Object.TheVariants.{PhaseEnabled}
use Rattle.tsb_step.specs.tsb_plan.declared.object.ObjectId.{ObjectId}
use Rattle.tsb_step.specs.tsb_plan.declared.version.Version.TheVariants.{One}
use Rattle.tsb_step.specs.tsb_plan.Objects.{objects, order}
use Rattle.tsb_step.specs.tsb_plan.Plan.{Plan, narrow_counts}
use Rattle.tsb_step.specs.tsb_plan.Versions.{is_in_rows, has_object, has_index_in, indices_in, greatest_in, translated}
use Rattle.tsb_step.proofs.tsb_plan.TableLemmas.{at-order, order-below, length-objects}
use Rattle.tsb_step.specs.tsb_phase.Phase as phase
use Rattle.tsb_step.specs.tsb_plan.Objects.{is_structural}
use Rattle.tsb_step.specs.tsb_transact.Commit as commit
use Rattle.tsb_step.specs.declared.inputs.Input.{Input}
use Rattle.tsb_step.specs.declared.inputs.Input.TheVariants.{Set, Commit}
use Rattle.tsb_step.specs.State.{State, interval}
use Rattle.tsb_step.specs.Signs.{commitment}
use Rattle.tsb_step.specs.Tables.{indices_for, greatest_for, version_of, has_place, place_refusal}
use Rattle.tsb_step.specs.Step.{is_serving, set_refusal, verdict}
use Rattle.tsb_laws.specs.Widened.{IsNarrow, widened, widened_id, widened_input, IsOfTable, IsWithin, widened_state}
use Rattle.tsb_laws.proofs.versions.PlanLemmas.{any-same, beyond-narrow}
use Rattle.tsb_laws.proofs.versions.TickLemmas.{IsNarrowState}
use Rattle.tsb_laws.proofs.versions.DeskLemmas.{from-one, has_edit_of-same, length-same, changes_some-same}
use Rattle.tsb_step.proofs.tsb_rules.RuleLemmas.{under}

-- what holds of the objects of version 1 in both tables
abbrev stands_in_both : Object → Bool
stands_in_both o = not (has_object One o) || ((indices_for 8 narrow_counts o == indices_in One o) && ((greatest_for 8 2 o == greatest_in One o)
    && (nat_le (greatest_in One o) (greatest_for 16 4 o)
    && (if is_in_rows o then (indices_in One o == 64 && indices_for 16 narrow_counts o == 128) else nat_le (indices_in One o) (indices_for 16 narrow_counts o)))))

all_stand : list_all stands_in_both objects ≡ true
unfolding objects
all_stand = refl

all-get : (test : Object → Bool) (xs : List Object) (k : ℕ) (d : Object) → list_all test xs ≡ true → k < length xs → test (get_or xs k d) ≡ true
all-get test [] k d all below = absurd (omega arith)
all-get test (x ∷ xs) zero d all below = (and_parts (test x) (list_all test xs) all).0
all-get test (x ∷ xs) (suc k) d all below = all-get test xs k d (and_parts (test x) (list_all test xs) all).1 (omega arith)

stands : (o : Object) → stands_in_both o ≡ true
stands o =
    subst (λ (x : Object). stands_in_both x ≡ true) (at-order o)
    (all-get stands_in_both objects (order o) PhaseEnabled all_stand (rw length-objects (order-below o)))

first-of : (b x y : Bool) → (if b then x else y) ≡ true → b ≡ true → x ≡ true
first-of true x y e on = e
first-of false x y e on = cc

second-of : (b x y : Bool) → (if b then x else y) ≡ true → b ≡ false → y ≡ true
second-of true x y e off = cc
second-of false x y e off = e

record Stands (o : Object) : Type 0 where
  indices : indices_for 8 narrow_counts o ≡ indices_in One o
  values : greatest_for 8 2 o ≡ greatest_in One o
  wide_values : greatest_in One o ≤ greatest_for 16 4 o
  wide_indices : (if is_in_rows o then (indices_in One o == 64 && indices_for 16 narrow_counts o == 128) else nat_le (indices_in One o) (indices_for 16 narrow_counts o)) ≡ true

stands-parts : (o : Object) → has_object One o ≡ true → Stands o
stands-parts o has =
    let all = under (has_object One o) _ (stands o) has in
    let first = and_parts (indices_for 8 narrow_counts o == indices_in One o) _ all in
    let second = and_parts (greatest_for 8 2 o == greatest_in One o) _ first.1 in
    let third = and_parts (nat_le (greatest_in One o) (greatest_for 16 4 o)) _ second.1 in
    record {
      indices = eqb-true (indices_for 8 narrow_counts o) (indices_in One o) first.0;
      values = eqb-true (greatest_for 8 2 o) (greatest_in One o) second.0;
      wide_values = grind (arith, nat_tests, third.0);
      wide_indices = third.1;
    }

-- an index of version 1, and its greatest
index-range : (o : Object) (i : ℕ) → has_index_in One o i ≡ true → (1 ≤ i) × (i ≤ indices_in One o)
index-range o i has =
    let range : (nat_le 1 i && nat_le i (indices_in One o)) ≡ true = (and_parts (has_object One o) _ has).1 in
    let both : (nat_le 1 i ≡ true) × (nat_le i (indices_in One o) ≡ true) = and_parts (nat_le 1 i) _ range in
    (grind (arith, nat_tests, both.0), grind (arith, nat_tests, both.1))

within-range : (i n : ℕ) → 1 ≤ i → i ≤ n → (nat_le 1 i && nat_le i n) ≡ true
within-range i n from to = grind (arith, nat_tests)

pub wide-range : (o : Object) (i : ℕ) → has_index_in One o i ≡ true → (nat_le 1 (translated One o i) && nat_le (translated One o i) (indices_for 16 narrow_counts o)) ≡ true
wide-range o i has =
    let parts : Stands o = stands-parts o (and_parts (has_object One o) _ has).0 in
    let range : (1 ≤ i) × (i ≤ indices_in One o) = index-range o i has in
    elim (cases_Bool (is_in_rows o)) [
      | inl rows ↦ (let counts : (indices_in One o == 64 && indices_for 16 narrow_counts o == 128) ≡ true = first-of (is_in_rows o) _ _ parts.wide_indices rows in
          let both : ((indices_in One o == 64) ≡ true) × ((indices_for 16 narrow_counts o == 128) ≡ true) = and_parts (indices_in One o == 64) _ counts in
          in_rows rows (eqb-true (indices_in One o) 64 both.0) (eqb-true (indices_for 16 narrow_counts o) 128 both.1) range.0 range.1)
      | inr flat ↦ (let more : nat_le (indices_in One o) (indices_for 16 narrow_counts o) ≡ true = second-of (is_in_rows o) _ _ parts.wide_indices flat in
          let few : indices_in One o ≤ indices_for 16 narrow_counts o = grind (arith, nat_tests, more) in
          alone flat few range.0 range.1)
    ]
  where
    in_rows : is_in_rows o ≡ true → indices_in One o ≡ 64 → indices_for 16 narrow_counts o ≡ 128 → 1 ≤ i → i ≤ indices_in One o →
        (nat_le 1 (translated One o i) && nat_le (translated One o i) (indices_for 16 narrow_counts o)) ≡ true
    in_rows rows e f from to =
        let index : translated One o i ≡ 16 * ((i - 1) / 8) + (i - 1) % 8 + 1 = rw rows refl in
        let low : 16 * ((i - 1) / 8) + (i - 1) % 8 + 1 ≤ 128 = omega arith in
        within-range (translated One o i) (indices_for 16 narrow_counts o) (omega arith) (omega arith)

    alone : is_in_rows o ≡ false → indices_in One o ≤ indices_for 16 narrow_counts o → 1 ≤ i → i ≤ indices_in One o →
        (nat_le 1 (translated One o i) && nat_le (translated One o i) (indices_for 16 narrow_counts o)) ≡ true
    alone flat few from to =
        let index : translated One o i ≡ i = rw flat refl in
        within-range (translated One o i) (indices_for 16 narrow_counts o) (omega arith) (omega arith)

not-refused : (plan : Plan) (id : ObjectId) (v : ℕ) → has_object (version_of plan) id.object ≡ true →
    has_place plan id.object id.index ≡ true →
    nat_le v (greatest_for plan.phase_count plan.side_count id.object) ≡ true → place_refusal plan id v ≡ None
not-refused plan id v known has low = rw (known, has, low) refl

narrow-place : (plan : Plan) (id : ObjectId) (v : ℕ) → IsNarrow plan → IsOfTable id v → place_refusal plan id v ≡ None
narrow-place plan id v narrow table =
    let parts : Stands id.object = stands-parts id.object (and_parts (has_object One id.object) _ table.placed).0 in
    let range : (nat_le 1 id.index && nat_le id.index (indices_in One id.object)) ≡ true = (and_parts (has_object One id.object) _ table.placed).1 in
    let least : v ≤ greatest_in One id.object = table.bounded in
    let low : nat_le v (greatest_in One id.object) ≡ true = grind (arith, nat_tests) in
    not-refused plan id v (rw narrow.phase_count (and_parts (has_object One id.object) _ table.placed).0)
    (rw (narrow.phase_count, narrow.counts, parts.indices) range) (rw (narrow.phase_count, narrow.side_count, parts.values) low)

wide-place : (plan : Plan) (id : ObjectId) (v : ℕ) → IsNarrow plan → IsOfTable id v → place_refusal (widened plan) (widened_id id) v ≡ None
wide-place plan id v narrow table =
    let parts : Stands id.object = stands-parts id.object (and_parts (has_object One id.object) _ table.placed).0 in
    let least : v ≤ greatest_in One id.object = table.bounded in
    let most : greatest_in One id.object ≤ greatest_for 16 4 id.object = parts.wide_values in
    let low : nat_le v (greatest_for 16 4 id.object) ≡ true = grind (arith, nat_tests) in
    not-refused (widened plan) (widened_id id) v refl (rw narrow.counts (wide-range id.object id.index table.placed)) low

set_refusal-same : (s : State) (station : ℕ) (id : ObjectId) (v : ℕ) → IsNarrowState s → IsOfTable id v →
    set_refusal (widened_state s) station (widened_id id) v ≡ set_refusal s station id v
set_refusal-same s station id v is table =
    rw (
      wide-place s.plan id v is.plan table,
      narrow-place s.plan id v is.plan table,
      length-same s.desk.edits,
      has_edit_of-same id s.desk.edits (from-one id.object id.index table.placed) is.edits,
    ) refl

serving-same : (s : State) → IsNarrowState s → is_serving (widened_state s) ≡ is_serving s
serving-same s is =
    ap (λ b. b || (is_some (commitment s 1) || is_some (commitment s 2)) || is_some s.rings.crossing)
    (any-same s.plan (λ p. in_service (interval s p)) (λ p. in_service (interval s p)) is.plan (λ p in_it. refl)
    (λ p out. ap (λ (x : phase.Phase). in_service x.interval) (is.resting p (beyond-narrow p out))))

pub verdict-same : (s : State) (i : Input) → IsNarrowState s → IsWithin i → verdict (widened_state s) (widened_input i) ≡ verdict s i
unfolding verdict
verdict-same s (Set station id v) is low = set_refusal-same s station id v is low
verdict-same s (Commit station) is low =
    rw (
      serving-same s is,
      changes_some-same is_structural s.plan s.desk.edits is.edits,
      changes_some-same commit.is_preempt_list s.plan s.desk.edits is.edits,
    ) refl
verdict-same s i is low = refl
