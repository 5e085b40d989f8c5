-- Each input does the same of both benches, and a run does too.
use Rattle.std.proofs.Common.{◌≡◌, ◌↔◌, ℕ, ◌+◌, ◌≤◌, nat_le, Bool, true, false, ◌&&◌, if◌then◌else◌, List, [], ◌∷◌, Option, Some, None, is_some, refl, arith, sym, ◌∙◌, ap, ap₂, subst}
use Rattle.std.proofs.lemmas.Bool.Decides.{nat_tests}
use Rattle.tsb_step.specs.tsb_types.declared.lamp.Lamp.{Lamp}
use Rattle.tsb_step.specs.tsb_types.declared.refusal.Refusal.{Refusal}
use Rattle.tsb_step.specs.tsb_types.declared.refusal.Refusal.TheVariants.{NoSuchObject, OutOfRange, TooManyEdits}
use Rattle.tsb_step.specs.tsb_types.declared.row.Row.{Row}
use Rattle.tsb_step.specs.tsb_plan.declared.object.Object.{Object}
use Rattle.tsb_step.specs.tsb_plan.declared.object.Object.TheVariants.{PedestrianDetectorCallPhase}
use Rattle.tsb_step.specs.tsb_plan.declared.object.ObjectId.{ObjectId}
use Rattle.tsb_step.specs.tsb_plan.Objects.{order}
use Rattle.tsb_step.specs.tsb_plan.Plan.{Plan, Counts, all_counts, is_same, with_value}
use Rattle.tsb_step.specs.tsb_plan.Versions.{has_object}
use Rattle.tsb_step.specs.tsb_coord.Coordinated.{selects}
use Rattle.tsb_step.specs.tsb_coord.declared.correction.Correction.{Correction}
use Rattle.tsb_step.specs.tsb_coord.Correction.{selected_correction}
use Rattle.tsb_step.specs.tsb_coord.Clock.{midnight_at, start_of}
use Rattle.tsb_step.specs.tsb_rules.Rules.{first_broken}
use Rattle.tsb_step.specs.tsb_transact.declared.edit.Edit.{Edit}
use Rattle.tsb_step.specs.tsb_transact.Calls as desk
use Rattle.tsb_step.specs.tsb_transact.Desk.{Desk, is_of, with_edit, with_edits}
use Rattle.tsb_step.specs.declared.inputs.Input.{Input}
use Rattle.tsb_step.specs.declared.inputs.Input.TheVariants as inputs
use Rattle.tsb_step.specs.Runs.{replay, AreTaken}
use Rattle.tsb_step.specs.Signs.{display, field, local, unless_tripped, watched}
use Rattle.tsb_step.specs.State.{State, start, restarted}
use Rattle.tsb_step.specs.Step.{with_pattern, with_clock, with_lamp, reset, found, committed, ticked, step, verdict}
use Rattle.tsb_step.specs.Tick.{next}
use Rattle.tsb_step.specs.Tables.{indices_for, has_place, greatest_of, version_of, place_refusal}
use Rattle.tsb_step.proofs.EditLemmas.{same_counts, same_phase_count}
use Rattle.tsb_step.proofs.tsb_plan.PlanLemmas.{same-parts}
use Rattle.tsb_step.proofs.tsb_plan.TableLemmas.{order-injective}
use Rattle.tsb_laws.specs.Sizes.{AreFewer, IsOfFewer, full, full_state, IsInputOf, AreInputsOf}
use Rattle.tsb_laws.proofs.sizes.CoordLemmas.{local_now-same, selected_correction-same}
use Rattle.tsb_laws.proofs.sizes.RuleLemmas.{first_broken-same}
use Rattle.tsb_laws.proofs.sizes.TickLemmas.{display-same, field-same, watched-same, ticked-same}

-- ## Places

-- where there are n phases and so many of the others, the object has the index
abbrev is_place : ℕ → Counts → ObjectId → Bool
is_place n counts id = nat_le 1 id.index && nat_le id.index (indices_for n counts id.object)

-- an object has no fewer indices where there are more
more : (counts : Counts) → AreFewer counts → (n : ℕ) (o : Object) → indices_for n counts o ≤ indices_for n all_counts o
more counts few n PedestrianDetectorCallPhase = few.pedestrian_detectors
more counts few n o = omega (arith, few.vehicle_detectors, few.pedestrian_detectors, few.overlaps, few.preempts)

within : (i a b : ℕ) → a ≤ b → (nat_le 1 i && nat_le i a) ≡ true → (nat_le 1 i && nat_le i b) ≡ true
within i a b few at = grind (arith, nat_tests, few, at)

place-full : (plan : Plan) (id : ObjectId) → IsOfFewer plan → has_place plan id.object id.index ≡ true → has_place (full plan) id.object id.index ≡ true
place-full plan id few at =
    within id.index (indices_for plan.phase_count plan.counts id.object) (indices_for plan.phase_count all_counts id.object)
    (more plan.counts few.fewer plan.phase_count id.object) at

refusal-same : (plan : Plan) (id : ObjectId) (v : ℕ) → IsOfFewer plan → has_place plan id.object id.index ≡ true →
    place_refusal (full plan) id v ≡ place_refusal plan id v
refusal-same plan id v few at =
    ap (λ (b : Bool). if has_object (version_of plan) id.object && b then (if nat_le v (greatest_of plan id.object) then None else Some OutOfRange) else Some NoSuchObject)
    (place-full plan id few at ∙ sym at)

-- ## Edits

-- each edit is of a place
abbrev AreAtPlaces : ℕ → Counts → List Edit → Type 0
AreAtPlaces n counts [] = Unit {0}
AreAtPlaces n counts (e ∷ es) = (is_place n counts e.id ≡ true) × AreAtPlaces n counts es

edits-full : (plan : Plan) (es : List Edit) → with_edits (full plan) es ≡ full (with_edits plan es)
edits-full plan [] = refl
edits-full plan (e ∷ es) = edits-full (with_value plan e.id.object e.id.index e.value) es

put-few : (plan : Plan) (id : ObjectId) (v : ℕ) → IsOfFewer plan → is_place plan.phase_count plan.counts id ≡ true →
    IsOfFewer (with_value plan id.object id.index v)
put-few plan id v few at = record { fewer = few.fewer; placed = λ p k out. go p k out (is_same id.object id.index p k) refl }
  where
    no : (b : Bool) → b ≡ true → b ≡ false → ⊥
    no true on off = cc
    no false on off = cc

    go : (p : Object) (k : ℕ) → has_place plan p k ≡ false → (b : Bool) → is_same id.object id.index p k ≡ b → (if b then v else plan.value p k) ≡ 0
    go p k out false it = few.placed p k out
    go p k out true it =
        let both : (order id.object ≡ order p) × (id.index ≡ k) = same-parts id.object p id.index k it in
        let here : has_place plan p k ≡ true =
        subst (λ (q : Object). has_place plan q k ≡ true) (order-injective id.object p both.0) (subst (λ (j : ℕ). has_place plan id.object j ≡ true) both.1 at) in
        absurd (no (has_place plan p k) here out)

edits-few : (plan : Plan) (es : List Edit) → IsOfFewer plan → AreAtPlaces plan.phase_count plan.counts es → IsOfFewer (with_edits plan es)
edits-few plan [] few at = few
edits-few plan (e ∷ es) few at = edits-few (with_value plan e.id.object e.id.index e.value) es (put-few plan e.id e.value few at.0) at.1

edit-placed : (n : ℕ) (counts : Counts) (e : Edit) (es : List Edit) → is_place n counts e.id ≡ true → AreAtPlaces n counts es →
    AreAtPlaces n counts (with_edit e es)
edit-placed n counts e [] here at = (here, tt)
edit-placed n counts e (x ∷ xs) here at = go (is_of e.id x) (edit-placed n counts e xs here at.1)
  where
    go : (b : Bool) → AreAtPlaces n counts (with_edit e xs) → AreAtPlaces n counts (if b then e ∷ xs else x ∷ with_edit e xs)
    go true rest = (here, at.1)
    go false rest = (at.0, rest)

-- ## States of the smaller bench

-- its plan, with as many of each as at first, and the places of its edits
pub record IsSmall (n : ℕ) (counts : Counts) (s : State) : Type 0 where
  phases : s.plan.phase_count ≡ n
  counts_stay : s.plan.counts ≡ counts
  plan : IsOfFewer s.plan
  edits : AreAtPlaces n counts s.desk.edits

-- ## One input

module _ (s : State) where
  lamp-same : IsOfFewer s.plan → (lamp : Option Lamp) → with_lamp lamp (full_state s) ≡ full_state (with_lamp lamp s)
  lamp-same few lamp = go (is_some s.trip)
    where
      go : (b : Bool) → (if b then record (full_state s) { lamp = lamp } else watched (full_state s) (record (full_state s) { lamp = lamp }))
          ≡ full_state (if b then record s { lamp = lamp } else watched s (record s { lamp = lamp }))
      go true = refl
      go false = watched-same s (record s { lamp = lamp }) few

  reset-same : reset (full_state s) ≡ full_state (reset s)
  reset-same = go (is_some s.trip)
    where
      go : (b : Bool) → (if b then restarted (full_state s) else full_state s) ≡ full_state (if b then restarted s else s)
      go true = refl
      go false = refl

  pub local-same : local (full_state s) ≡ local s
  local-same = local_now-same s.plan s.pattern s.correction s.now

  pattern-same : (n : ℕ) → with_pattern n (full_state s) ≡ full_state (with_pattern n s)
  pattern-same n =
      ap (λ (c : Correction). record (full_state (with_pattern n s)) { correction = c })
      (selected_correction-same s.plan (selects n) s.now (midnight_at s.start_moment s.now) (local (full_state s))
      ∙ ap (selected_correction s.plan (selects n) s.now (midnight_at s.start_moment s.now)) local-same)

  clock-same : (m : ℕ) → with_clock m (full_state s) ≡ full_state (with_clock m s)
  clock-same m =
      ap (λ (c : Correction). record (full_state (with_clock m s)) { correction = c })
      (selected_correction-same s.plan s.pattern s.now (midnight_at (Some (start_of m s.now)) s.now) (local (full_state s))
      ∙ ap (selected_correction s.plan s.pattern s.now (midnight_at (Some (start_of m s.now)) s.now)) local-same)

module _ (n : ℕ) (counts : Counts) (s : State) (small : IsSmall n counts s) where
  at-places : AreAtPlaces s.plan.phase_count s.plan.counts s.desk.edits
  at-places = subst (λ (c : Counts). AreAtPlaces s.plan.phase_count c s.desk.edits) (sym small.counts_stay)
      (subst (λ (k : ℕ). AreAtPlaces k counts s.desk.edits) (sym small.phases) small.edits)

  found-same : found (full s.plan) s.desk ≡ found s.plan s.desk
  found-same =
      ap first_broken (edits-full s.plan s.desk.edits)
      ∙ first_broken-same (with_edits s.plan s.desk.edits) (edits-few s.plan s.desk.edits small.plan at-places)

  committed-same : committed (full_state s) ≡ full_state (committed s)
  committed-same = ap (λ (q : Plan). record (committed s) { plan = q }) (edits-full s.plan s.desk.edits)

  pub step-same : (i : Input) → step (full_state s) i ≡ full_state (step s i)
  unfolding step
  step-same (inputs.Tick row) = ticked-same s row small.plan
  step-same (inputs.Pattern m) = pattern-same s m
  step-same (inputs.Clock m) = clock-same s m
  step-same (inputs.Fault lamp) = lamp-same s small.plan lamp
  step-same inputs.Reset = reset-same s
  step-same (inputs.Verify station) = ap (λ rule. record (full_state s) { desk = desk.after_check rule s.desk }) found-same
  step-same (inputs.Commit station) = committed-same
  step-same i = refl

  placed-here : (id : ObjectId) → is_place n counts id ≡ true → has_place s.plan id.object id.index ≡ true
  placed-here id at =
      ap₂ (λ (k : ℕ) (c : Counts). is_place k c id) small.phases small.counts_stay ∙ at

  pub verdict-same : (i : Input) → ((station v : ℕ) (id : ObjectId) → i ≡ inputs.Set station id v → is_place n counts id ≡ true) →
      verdict (full_state s) i ≡ verdict s i
  unfolding verdict
  verdict-same (inputs.Set station id v) at =
      ap (λ (r : Option Refusal). desk.or_refusal (desk.stranger_refusal station s.desk.owner)
      (desk.or_refusal r (desk.refused_if (desk.has_no_room id s.desk.edits) TooManyEdits)))
      (refusal-same s.plan id v small.plan (placed-here id (at station v id refl)))
  verdict-same i at = refl

-- ## The smaller bench stays such

desk-small : (n : ℕ) (counts : Counts) (s : State) (d : Desk) → IsSmall n counts s → AreAtPlaces n counts d.edits → IsSmall n counts (record s { desk = d })
desk-small n counts s d small at = record { phases = small.phases; counts_stay = small.counts_stay; plan = small.plan; edits = at }

same-small : (n : ℕ) (counts : Counts) (s t : State) → IsSmall n counts s → t.plan ≡ s.plan → t.desk ≡ s.desk → IsSmall n counts t
same-small n counts s t small plans desks = record {
  phases = ap (λ (q : Plan). q.phase_count) plans ∙ small.phases;
  counts_stay = ap (λ (q : Plan). q.counts) plans ∙ small.counts_stay;
  plan = subst IsOfFewer (sym plans) small.plan;
  edits = subst (λ (d : Desk). AreAtPlaces n counts d.edits) (sym desks) small.edits;
}

watched-plan : (a b : State) → ((watched a b).plan ≡ b.plan) × ((watched a b).desk ≡ b.desk)
unfolding watched
watched-plan a b = (refl, refl)

unless-small : (n : ℕ) (counts : Counts) (a b : State) → IsSmall n counts b → IsSmall n counts (unless_tripped a b)
unless-small n counts a b small = go (is_some a.trip)
  where
    go : (t : Bool) → IsSmall n counts (if t then b else watched a b)
    go true = small
    go false = same-small n counts b (watched a b) small (watched-plan a b).0 (watched-plan a b).1

reset-small : (n : ℕ) (counts : Counts) (s : State) → IsSmall n counts s → IsSmall n counts (reset s)
reset-small n counts s small = go (is_some s.trip)
  where
    go : (t : Bool) → IsSmall n counts (if t then restarted s else s)
    go true = record { phases = small.phases; counts_stay = small.counts_stay; plan = small.plan; edits = small.edits }
    go false = small

tick-small : (n : ℕ) (counts : Counts) (s : State) (row : Row) → IsSmall n counts s → IsSmall n counts (ticked row s)
tick-small n counts s row small = go (is_some s.trip)
  where
    next-small : IsSmall n counts (next s row)
    next-small = record { phases = small.phases; counts_stay = small.counts_stay; plan = small.plan; edits = small.edits }

    go : (t : Bool) → IsSmall n counts (if t then record s { now = s.now + 1 } else unless_tripped s (next s row))
    go true = record { phases = small.phases; counts_stay = small.counts_stay; plan = small.plan; edits = small.edits }
    go false = unless-small n counts s (next s row) next-small

commit-small : (n : ℕ) (counts : Counts) (s : State) → IsSmall n counts s → IsSmall n counts (committed s)
commit-small n counts s small = record {
  phases = same_phase_count s.plan s.desk.edits ∙ small.phases;
  counts_stay = same_counts s.plan s.desk.edits ∙ small.counts_stay;
  plan = edits-few s.plan s.desk.edits small.plan (at-places n counts s small);
  edits = tt;
}

pub step-small : (n : ℕ) (counts : Counts) (s : State) (i : Input) →
    ((station v : ℕ) (id : ObjectId) → i ≡ inputs.Set station id v → is_place n counts id ≡ true) → IsSmall n counts s → IsSmall n counts (step s i)
unfolding step
step-small n counts s (inputs.Tick row) at small = tick-small n counts s row small
step-small n counts s (inputs.Fault lamp) at small = unless-small n counts s (record s { lamp = lamp }) (same-small n counts s (record s { lamp = lamp }) small refl refl)
step-small n counts s inputs.Reset at small = reset-small n counts s small
step-small n counts s (inputs.Begin station) at small = desk-small n counts s (desk.begun station) small tt
step-small n counts s (inputs.Set station id v) at small =
    desk-small n counts s (desk.with_set id v s.desk) small
    (edit-placed n counts (record { id = id; value = v }) s.desk.edits (at station v id refl) small.edits)
step-small n counts s (inputs.Verify station) at small = desk-small n counts s (desk.after_check (found s.plan s.desk) s.desk) small small.edits
step-small n counts s (inputs.Commit station) at small = commit-small n counts s small
step-small n counts s (inputs.Abort station) at small = desk-small n counts s desk.after_abort small tt
step-small n counts s i at small = same-small n counts s (step s i) small refl refl

-- ## Runs

input-at : (plan : Plan) (i : Input) → IsInputOf plan i → (station v : ℕ) (id : ObjectId) → i ≡ inputs.Set station id v →
    is_place plan.phase_count plan.counts id ≡ true
input-at plan i of station v id e = let here : IsInputOf plan (inputs.Set station id v) = subst (IsInputOf plan) e of in here

start-small : (plan : Plan) → IsOfFewer plan → IsSmall plan.phase_count plan.counts (start plan)
start-small plan few = record { phases = refl; counts_stay = refl; plan = few; edits = tt }

pub run-small : (plan : Plan) (is : List Input) → IsOfFewer plan → AreInputsOf plan is → IsSmall plan.phase_count plan.counts (replay plan is)
run-small plan [] few of = start-small plan few
run-small plan (i ∷ is) few of =
    step-small plan.phase_count plan.counts (replay plan is) i (input-at plan i of.0) (run-small plan is few of.1)

pub states_same : (plan : Plan) (is : List Input) → IsOfFewer plan → AreInputsOf plan is → replay (full plan) is ≡ full_state (replay plan is)
states_same plan [] few of = refl
states_same plan (i ∷ is) few of =
    ap (λ (s : State). step s i) (states_same plan is few of.1)
    ∙ step-same plan.phase_count plan.counts (replay plan is) (run-small plan is few of.1) i

pub show_the_same : (plan : Plan) (is : List Input) → IsOfFewer plan → AreInputsOf plan is →
    (display (replay (full plan) is) ≡ display (replay plan is)) × (field (replay (full plan) is) ≡ field (replay plan is))
show_the_same plan is few of =
    (ap display (states_same plan is few of) ∙ display-same (replay plan is), ap field (states_same plan is few of) ∙ field-same (replay plan is))

pub refuse_the_same : (plan : Plan) (is : List Input) → IsOfFewer plan → AreInputsOf plan is → (i : Input) → IsInputOf plan i →
    verdict (replay (full plan) is) i ≡ verdict (replay plan is) i
refuse_the_same plan is few of i it =
    ap (λ (s : State). verdict s i) (states_same plan is few of)
    ∙ verdict-same plan.phase_count plan.counts (replay plan is) (run-small plan is few of) i (input-at plan i it)

take : (plan : Plan) (is : List Input) → IsOfFewer plan → AreInputsOf plan is → AreTaken plan is → AreTaken (full plan) is
take plan [] few of taken = tt
take plan (i ∷ is) few of taken = (take plan is few of.1 taken.0, refuse_the_same plan is few of.1 i of.0 ∙ taken.1)

take_back : (plan : Plan) (is : List Input) → IsOfFewer plan → AreInputsOf plan is → AreTaken (full plan) is → AreTaken plan is
take_back plan [] few of taken = tt
take_back plan (i ∷ is) few of taken = (take_back plan is few of.1 taken.0, sym (refuse_the_same plan is few of.1 i of.0) ∙ taken.1)

pub take_the_same : (plan : Plan) (is : List Input) → IsOfFewer plan → AreInputsOf plan is → AreTaken plan is ↔ AreTaken (full plan) is
take_the_same plan is few of = (take plan is few of, take_back plan is few of)
