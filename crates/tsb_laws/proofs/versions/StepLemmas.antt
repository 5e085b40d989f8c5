-- Each input makes the same of both benches.
use Rattle.std.proofs.Common.{◌≡◌, ℕ, ◌+◌, Bool, true, false, if◌then◌else◌, List, Option, Some, is_some, option_map, refl, arith, ◌∙◌, ap, ap₂, inl, inr}
use Rattle.std.proofs.lemmas.Bool.{cases_Bool}
use Rattle.tsb_step.specs.tsb_types.declared.lamp.Lamp.{Lamp}
use Rattle.tsb_step.specs.tsb_types.declared.row.Row.{Row}
use Rattle.tsb_step.specs.tsb_plan.declared.object.ObjectId.{ObjectId}
use Rattle.tsb_step.specs.tsb_plan.Plan.{Plan}
use Rattle.tsb_step.specs.tsb_phase.Moves.{unforced}
use Rattle.tsb_step.specs.tsb_rules.Rules.{first_broken}
use Rattle.tsb_step.specs.tsb_plan.Objects.{is_structural}
use Rattle.tsb_step.specs.tsb_transact.declared.edit.Edit.{Edit}
use Rattle.tsb_step.specs.tsb_transact.Desk.{Desk, with_edits}
use Rattle.tsb_step.specs.tsb_transact.Commit as commit
use Rattle.tsb_step.specs.tsb_transact.Calls as desk
use Rattle.tsb_step.specs.tsb_ring.Rings as rings
use Rattle.tsb_step.specs.tsb_coord.Clock.{midnight_at, start_of}
use Rattle.tsb_step.specs.tsb_coord.Coordinated.{selects}
use Rattle.tsb_step.specs.tsb_coord.declared.correction.Correction.{Correction}
use Rattle.tsb_step.specs.tsb_heads.declared.monitor.Trip.{Trip}
use Rattle.tsb_step.specs.tsb_heads.Displays as heads
use Rattle.tsb_step.specs.tsb_heads.Monitoring as monitor
use Rattle.tsb_step.specs.declared.inputs.Input.{Input}
use Rattle.tsb_step.specs.declared.inputs.Input.TheVariants.{Tick, Pattern, Switch, Fault, Reset, Begin, Set, Verify, Commit, Abort, Clock, Omit}
use Rattle.tsb_step.specs.State.{State, start, restarted}
use Rattle.tsb_step.specs.Tick.{next}
use Rattle.tsb_step.specs.Signs.{shown, display, field, local, watched, unless_tripped}
use Rattle.tsb_step.specs.Step.{ticked, with_lamp, found, committed, step}
use Rattle.tsb_laws.specs.Widened.{IsNarrow, widened, widened_id, widened_input, IsOfTable, AreOfTable, IsLampWithin, IsWithin, widened_desk, widened_state}
use Rattle.tsb_laws.proofs.versions.CoordLemmas.{selected_correction-same}
use Rattle.tsb_laws.proofs.versions.HeadLemmas.{display-same, field-same, field-dark, judge-same}
use Rattle.tsb_laws.proofs.versions.TickLemmas.{IsNarrowState, next-same, next-narrow}
use Rattle.tsb_laws.proofs.versions.RuleLemmas.{first_broken-same}
use Rattle.tsb_laws.proofs.versions.DeskLemmas.{with_edits-same, edits-narrow, with_edit-same, with_edit-table, changes_some-same}

-- ## What is shown

pub shows-same : (s : State) → IsNarrow s.plan → display (widened_state s) ≡ display s
unfolding display
shows-same s narrow = display-same s.plan (shown s) narrow

pub fields-same : (s : State) → IsNarrow s.plan → field (widened_state s) ≡ field s
unfolding field
fields-same s narrow = field-same s.plan (shown s) s.lamp narrow

-- the state with what the monitor found
abbrev with_trip : State → Option Trip → State
with_trip s cause = record s { trip = option_map (λ c. record { cause = c; tick = s.now }) cause }

judged-same : (a b : State) → IsNarrow a.plan → IsNarrow b.plan → IsLampWithin a.lamp → IsLampWithin b.lamp →
    monitor.judge (widened b.plan) (field (widened_state a)) (field (widened_state b)) ≡ monitor.judge b.plan (field a) (field b)
unfolding field
judged-same a b first second low also =
    ap₂ (λ before after. monitor.judge (widened b.plan) before after) (field-same a.plan (shown a) a.lamp first) (field-same b.plan (shown b) b.lamp second)
    ∙ judge-same b.plan (heads.field a.plan (shown a) a.lamp) (heads.field b.plan (shown b) b.lamp) second
    (field-dark a.plan (shown a) a.lamp first low) (field-dark b.plan (shown b) b.lamp second also)

watched-same : (a b : State) → IsNarrow a.plan → IsNarrow b.plan → IsLampWithin a.lamp → IsLampWithin b.lamp →
    watched (widened_state a) (widened_state b) ≡ widened_state (watched a b)
unfolding watched
watched-same a b first second low also = ap (with_trip (widened_state b)) (judged-same a b first second low also)

unless_tripped-same : (a b : State) → IsNarrow a.plan → IsNarrow b.plan → IsLampWithin a.lamp → IsLampWithin b.lamp →
    unless_tripped (widened_state a) (widened_state b) ≡ widened_state (unless_tripped a b)
unless_tripped-same a b first second low also =
    elim (cases_Bool (is_some a.trip)) [
      | inl e ↦ rw e refl
      | inr e ↦ rw e (watched-same a b first second low also)
    ]

watched-narrow : (a b : State) → IsNarrowState b → IsNarrowState (watched a b)
unfolding watched
watched-narrow a b is = record {
  plan = is.plan;
  edits = is.edits;
  resting = is.resting;
  commitments = is.commitments;
  side = is.side;
  crossing = is.crossing;
  lamp = is.lamp;
}

unless_tripped-narrow : (a b : State) → IsNarrowState b → IsNarrowState (unless_tripped a b)
unless_tripped-narrow a b is = go (is_some a.trip)
  where
    go : (t : Bool) → IsNarrowState (if t then b else watched a b)
    go true = is
    go false = watched-narrow a b is

-- ## Each input

-- of two states, the one that a test picks
if-same : (b : Bool) (x y wide_x wide_y : State) → wide_x ≡ widened_state x → wide_y ≡ widened_state y →
    (if b then wide_x else wide_y) ≡ widened_state (if b then x else y)
if-same true x y wide_x wide_y first second = first
if-same false x y wide_x wide_y first second = second

ticked-same : (row : Row) (s : State) → IsNarrowState s → ticked row (widened_state s) ≡ widened_state (ticked row s)
ticked-same row s is =
    if-same (is_some s.trip) (record s { now = s.now + 1 }) (unless_tripped s (next s row))
    (record (widened_state s) { now = s.now + 1 }) (unless_tripped (widened_state s) (next (widened_state s) row)) refl
    (ap (unless_tripped (widened_state s)) (next-same s row is) ∙ unless_tripped-same s (next s row) is.plan is.plan is.lamp is.lamp)

with_lamp-same : (lamp : Option Lamp) (s : State) → IsNarrowState s → IsLampWithin lamp →
    with_lamp lamp (widened_state s) ≡ widened_state (with_lamp lamp s)
with_lamp-same lamp s is low = unless_tripped-same s (record s { lamp = lamp }) is.plan is.plan is.lamp low

reset-same : (s : State) → step (widened_state s) Reset ≡ widened_state (step s Reset)
unfolding step
reset-same s =
    elim (cases_Bool (is_some s.trip)) [
      | inl e ↦ rw e refl
      | inr e ↦ rw e refl
    ]

set-same : (s : State) (id : ObjectId) (v : ℕ) → IsNarrowState s → IsOfTable id v →
    desk.with_set (widened_id id) v (widened_desk s.desk) ≡ widened_desk (desk.with_set id v s.desk)
set-same s id v is table =
    ap (λ (es : List Edit). record (desk.with_set id v s.desk) { edits = es })
    (with_edit-same (record { id = id; value = v }) s.desk.edits table is.edits)

found-same : (s : State) → IsNarrowState s → found (widened s.plan) (widened_desk s.desk) ≡ found s.plan s.desk
found-same s is =
    ap first_broken (with_edits-same s.plan s.desk.edits is.edits)
    ∙ first_broken-same (with_edits s.plan s.desk.edits) (edits-narrow s.plan s.desk.edits is.plan is.edits)

committed-same : (s : State) → IsNarrowState s → committed (widened_state s) ≡ widened_state (committed s)
committed-same s is =
    ap₂ (λ (q : Plan) b. record s { plan = q; desk = desk.after_commit; rings = if b then rings.forgotten s.rings else s.rings })
    (with_edits-same s.plan s.desk.edits is.edits) (changes_some-same is_structural s.plan s.desk.edits is.edits)

pattern-same : (s : State) (n : ℕ) → IsNarrow s.plan → step (widened_state s) (Pattern n) ≡ widened_state (step s (Pattern n))
unfolding step
pattern-same s n narrow =
    ap (λ (c : Correction). record (widened_state s) { pattern = selects n; correction = c; phases = λ p. unforced (s.phases p) })
    (selected_correction-same s.plan (selects n) s.now (midnight_at s.start_moment s.now) (local (widened_state s)) (local s) narrow)

clock-same : (s : State) (m : ℕ) → IsNarrow s.plan → step (widened_state s) (Clock m) ≡ widened_state (step s (Clock m))
unfolding step
clock-same s m narrow =
    ap (λ (c : Correction). record (widened_state s) { correction = c; start_moment = Some (start_of m s.now) })
    (selected_correction-same s.plan s.pattern s.now (midnight_at (Some (start_of m s.now)) s.now) (local (widened_state s)) (local s) narrow)

pub step-same : (s : State) (i : Input) → IsNarrowState s → IsWithin i → step (widened_state s) (widened_input i) ≡ widened_state (step s i)
unfolding step
step-same s (Tick row) is low = ticked-same row s is
step-same s (Pattern n) is low = pattern-same s n is.plan
step-same s (Clock m) is low = clock-same s m is.plan
step-same s (Fault lamp) is low = with_lamp-same lamp s is low
step-same s Reset is low = reset-same s
step-same s (Set station id v) is low = ap (λ (d : Desk). record (widened_state s) { desk = d }) (set-same s id v is low)
step-same s (Verify station) is low =
    ap (λ rule. record (widened_state s) { desk = desk.after_check rule (widened_desk s.desk) }) (found-same s is)
step-same s (Commit station) is low = committed-same s is
step-same s i is low = refl

-- ## States of the narrow bench stay such

rings_after-narrow : (s : State) (b : Bool) (r : rings.Ring) →
    (if b then rings.forgotten s.rings else s.rings).commitment r ≡ s.rings.commitment r
rings_after-narrow s true r = refl
rings_after-narrow s false r = refl

rings_after-side : (s : State) (b : Bool) → (if b then rings.forgotten s.rings else s.rings).side ≡ s.rings.side
rings_after-side s true = refl
rings_after-side s false = refl

rings_after-crossing : (s : State) (b : Bool) → (if b then rings.forgotten s.rings else s.rings).crossing ≡ s.rings.crossing
rings_after-crossing s true = refl
rings_after-crossing s false = refl

commit-narrow : (s : State) → IsNarrowState s → IsNarrowState (committed s)
commit-narrow s is = record {
  plan = edits-narrow s.plan s.desk.edits is.plan is.edits;
  edits = tt;
  resting = is.resting;
  commitments = λ r. rw (rings_after-narrow s (commit.forgets_last_phases s.plan s.desk.edits) r) (is.commitments r);
  side = rw (rings_after-side s (commit.forgets_last_phases s.plan s.desk.edits)) is.side;
  crossing = rw (rings_after-crossing s (commit.forgets_last_phases s.plan s.desk.edits)) is.crossing;
  lamp = is.lamp;
}

-- with another desk whose edits are within
desk-narrow : (s : State) (d : Desk) → IsNarrowState s → AreOfTable d.edits → IsNarrowState (record s { desk = d })
desk-narrow s d is table = record {
  plan = is.plan;
  edits = table;
  resting = is.resting;
  commitments = is.commitments;
  side = is.side;
  crossing = is.crossing;
  lamp = is.lamp;
}

tick-narrow : (s : State) (row : Row) → IsNarrowState s → IsNarrowState (ticked row s)
tick-narrow s row is = go (is_some s.trip)
  where
    go : (t : Bool) → IsNarrowState (if t then record s { now = s.now + 1 } else unless_tripped s (next s row))
    go true = record { plan = is.plan; edits = is.edits; resting = is.resting; commitments = is.commitments; side = is.side; crossing = is.crossing; lamp = is.lamp }
    go false = unless_tripped-narrow s (next s row) (next-narrow s row is)

restarted-narrow : (s : State) → IsNarrowState s → IsNarrowState (restarted s)
restarted-narrow s is = record {
  plan = is.plan;
  edits = is.edits;
  resting = λ p out. refl;
  commitments = λ r. refl;
  side = omega arith;
  crossing = tt;
  lamp = tt;
}

reset-narrow : (s : State) → IsNarrowState s → IsNarrowState (if is_some s.trip then restarted s else s)
reset-narrow s is = go (is_some s.trip)
  where
    go : (t : Bool) → IsNarrowState (if t then restarted s else s)
    go true = restarted-narrow s is
    go false = is

pub step-narrow : (s : State) (i : Input) → IsNarrowState s → IsWithin i → IsNarrowState (step s i)
unfolding step
step-narrow s (Tick row) is low = tick-narrow s row is
step-narrow s (Pattern n) is low = record {
  plan = is.plan;
  edits = is.edits;
  resting = λ p out. ap unforced (is.resting p out);
  commitments = is.commitments;
  side = is.side;
  crossing = is.crossing;
  lamp = is.lamp;
}
step-narrow s (Clock m) is low = record {
  plan = is.plan;
  edits = is.edits;
  resting = is.resting;
  commitments = is.commitments;
  side = is.side;
  crossing = is.crossing;
  lamp = is.lamp;
}
step-narrow s (Switch n on) is low = record {
  plan = is.plan;
  edits = is.edits;
  resting = is.resting;
  commitments = is.commitments;
  side = is.side;
  crossing = is.crossing;
  lamp = is.lamp;
}
step-narrow s (Omit list) is low = record {
  plan = is.plan;
  edits = is.edits;
  resting = is.resting;
  commitments = is.commitments;
  side = is.side;
  crossing = is.crossing;
  lamp = is.lamp;
}
step-narrow s (Fault lamp) is low = unless_tripped-narrow s (record s { lamp = lamp }) (record {
  plan = is.plan;
  edits = is.edits;
  resting = is.resting;
  commitments = is.commitments;
  side = is.side;
  crossing = is.crossing;
  lamp = low;
})
step-narrow s Reset is low = reset-narrow s is
step-narrow s (Begin station) is low = desk-narrow s (desk.begun station) is tt
step-narrow s (Set station id v) is low =
    desk-narrow s (desk.with_set id v s.desk) is (with_edit-table (record { id = id; value = v }) s.desk.edits low is.edits)
step-narrow s (Verify station) is low = desk-narrow s (desk.after_check (found s.plan s.desk) s.desk) is is.edits
step-narrow s (Commit station) is low = commit-narrow s is
step-narrow s (Abort station) is low = desk-narrow s desk.after_abort is tt

pub start-narrow : (plan : Plan) → IsNarrow plan → IsNarrowState (start plan)
start-narrow plan narrow = record {
  plan = narrow;
  edits = tt;
  resting = λ p out. refl;
  commitments = λ r. refl;
  side = omega arith;
  crossing = tt;
  lamp = tt;
}
