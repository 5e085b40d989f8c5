-- One-line mistakes, each with an example in which it differs from the definition.
use Rattle.std.proofs.Common.{◌≡◌, ℕ, ◌+◌, ◌-◌, ◌==◌, nat_le, Bool, true, false, not, ◌||◌, if◌then◌else◌, List, [], ◌∷◌, ◌++◌, length, Option, Some, None, refl, ap, arith, true≢false}
use Rattle.std.proofs.lemmas.List.Elements.{All-cons, All-nil}
use Rattle.std.specs.List.{list_any, filter}
use Rattle.tsb_objects.specs.tsb_types.Lists.{run_from}
use Rattle.tsb_objects.specs.tsb_types.declared.interval.Interval.{Interval}
use Rattle.tsb_objects.specs.tsb_types.Intervals.{in_service}
use Rattle.tsb_objects.specs.tsb_types.declared.refusal.Refusal.{Refusal}
use Rattle.tsb_objects.specs.tsb_types.declared.refusal.Refusal.TheVariants.{Busy, NoSuchObject, OutOfRange, NotOwner, NotOpen, TooManyEdits, InService}
use Rattle.tsb_objects.specs.tsb_rules.declared.rules.Rule.TheVariants.{K5}
use Rattle.tsb_plan.specs.declared.object.Object.TheVariants.{PhaseConcurrency, PhaseWalk, PhaseMaximum1, SplitTime, PreemptDwellPhase}
use Rattle.tsb_plan.specs.declared.object.ObjectId.{ObjectId}
use Rattle.tsb_plan.specs.Objects.{objects, first_cell, is_structural, has_index, greatest}
use Rattle.tsb_plan.specs.Plan.{Plan, phases}
use Rattle.tsb_plan.specs.PlanOf.{put_refusal}
use Rattle.tsb_plan.specs.Quad.{quad}
use Rattle.tsb_transact.specs.declared.desk_state.DeskState.TheVariants.{Transaction}
use Rattle.tsb_transact.specs.declared.edit.Edit.{Edit}
use Rattle.tsb_transact.specs.Cells.{id_at, place_of}
use Rattle.tsb_transact.specs.Desk.{Desk, is_of, is_open, with_edit, with_edits}
use Rattle.tsb_transact.specs.Laws.{IsInRange}
use Rattle.tsb_transact.specs.Commit.{changes_structure, serves, must_wait}
use Rattle.tsb_transact.specs.Calls.{refused_if, begin_refusal, commit_refusal, abort_refusal, with_set}
use Rattle.tsb_transact.proofs.Examples.Examples.{at, edit, forty, broken, apart, checked, full}
use Rattle.tsb_transact.proofs.Examples.CommitExamples.{equal, all_red, none_committed}

-- ## A set leaves the desk in Done, so that what was not checked is committed

abbrev pub with_set_in_state : ObjectId → ℕ → Desk → Desk
with_set_in_state id v desk = record (with_set id v desk) { state = desk.state }

state_falls : (with_set (at PhaseConcurrency 5) 0 checked).state ≡ Transaction
state_falls = refl

state_stays : commit_refusal quad 1 false false (with_set_in_state (at PhaseConcurrency 5) 0 checked) ≡ None
unfolding quad
state_stays = refl

-- ## A further set keeps the rule that a check found

abbrev pub with_set_and_rule : ObjectId → ℕ → Desk → Desk
with_set_and_rule id v desk = record (with_set id v desk) { rule = desk.rule }

rule_is_forgotten : (with_set (at PhaseConcurrency 5) 2 broken).rule ≡ None
rule_is_forgotten = refl

rule_is_kept : (with_set_and_rule (at PhaseConcurrency 5) 2 broken).rule ≡ Some K5
rule_is_kept = refl

-- ## An object that is in the edits already goes last

abbrev pub with_edit_last : Edit → List Edit → List Edit
with_edit_last e edits = filter (λ x. not (is_of e.id x)) edits ++ e ∷ []

abbrev pub maximum_and_walk : List Edit
maximum_and_walk = edit PhaseMaximum1 2 40 ∷ edit PhaseWalk 2 5 ∷ []

place_is_kept : with_edit (edit PhaseMaximum1 2 50) maximum_and_walk ≡ edit PhaseMaximum1 2 50 ∷ edit PhaseWalk 2 5 ∷ []
place_is_kept = refl

place_is_lost : with_edit_last (edit PhaseMaximum1 2 50) maximum_and_walk
    ≡ edit PhaseWalk 2 5 ∷ edit PhaseMaximum1 2 50 ∷ []
place_is_lost = refl

-- ## The full desk takes no further value of an object that is in the edits, for which `room_for_the_same` of the
-- examples says there is room

abbrev pub is_full : ObjectId → List Edit → Bool
is_full id edits = nat_le 64 (length edits)

no_room_for_the_same : refused_if (is_full (at SplitTime 64) full.edits) TooManyEdits ≡ Some TooManyEdits
unfolding run_from
no_room_for_the_same = refl

-- ## The value is judged before the index, which `index_is_first` of the examples says is first

abbrev pub put_refusal_by_value : ObjectId → ℕ → Option Refusal
put_refusal_by_value id v =
    if nat_le v (greatest id.object) then (if has_index id.object id.index then None else Some NoSuchObject)
    else Some OutOfRange

value_is_first : put_refusal_by_value (at PhaseMaximum1 17) 256 ≡ Some OutOfRange
value_is_first = refl

-- ## A station begins anew in its own transaction

abbrev pub begin_refusal_of_others : ℕ → Desk → Option Refusal
begin_refusal_of_others s desk = by desk.owner
  where
    by : Option ℕ → Option Refusal
    by None = None
    by (Some owner) = if owner == s then None else Some (Busy owner)

owner_is_busy : begin_refusal apart ≡ Some (Busy 1)
owner_is_busy = refl

owner_begins_anew : begin_refusal_of_others 1 apart ≡ None
owner_begins_anew = refl

-- ## A station aborts the transaction of another

abbrev pub abort_refusal_of_none : Option ℕ → Option Refusal
abort_refusal_of_none None = Some NotOpen
abort_refusal_of_none (Some owner) = None

other_is_refused : abort_refusal 2 apart ≡ Some NotOwner
other_is_refused = refl

other_aborts : abort_refusal_of_none apart.owner ≡ None
other_aborts = refl

-- ## A change of the structure is committed in all red during a crossing

abbrev pub serves_a_phase : Plan → (ℕ → Interval) → Bool
serves_a_phase plan interval = list_any (λ p. in_service (interval p)) (phases plan)

crossing_waits : commit_refusal quad 1 (serves quad all_red none_committed (Some 2)) false checked ≡ Some InService
unfolding quad run_from
crossing_waits = refl

crossing_is_not_seen : commit_refusal quad 1 (serves_a_phase quad all_red) false checked ≡ None
unfolding quad run_from
crossing_is_not_seen = refl

-- ## Every commit waits while the rings serve

abbrev pub always_waits : Plan → Bool → Bool → List Edit → Bool
always_waits plan serving preempted edits = serving || preempted

timing_commits : must_wait quad true true (edit PhaseMaximum1 2 40 ∷ []) ≡ false
unfolding quad
timing_commits = refl

timing_waits : always_waits quad true true (edit PhaseMaximum1 2 40 ∷ []) ≡ true
timing_waits = refl

-- ## A structural object is a change, whatever its value is

abbrev pub names_structure : List Edit → Bool
names_structure edits = list_any (λ e. is_structural e.id.object) edits

equal_is_no_change : changes_structure quad equal ≡ false
unfolding quad
equal_is_no_change = refl

equal_is_a_change : names_structure equal ≡ true
equal_is_a_change = refl

-- ## A preempt's list waits for the rings

abbrev pub waits_for_rings : Plan → Bool → Bool → List Edit → Bool
waits_for_rings plan serving preempted edits = must_wait plan serving (serving || preempted) edits

list_commits : must_wait quad true false (edit PreemptDwellPhase 2 136 ∷ []) ≡ false
unfolding quad
list_commits = refl

list_waits : waits_for_rings quad true false (edit PreemptDwellPhase 2 136 ∷ []) ≡ true
unfolding quad
list_waits = refl

-- ## A commit puts its first edit alone into effect

abbrev pub with_first_edit : Plan → List Edit → Plan
with_first_edit plan [] = plan
with_first_edit plan (e ∷ es) = with_edits plan (e ∷ [])

all_take_effect : (with_edits quad checked.edits).value PhaseConcurrency 5 ≡ 2
unfolding quad
all_take_effect = refl

first_takes_effect : (with_first_edit quad checked.edits).value PhaseConcurrency 5 ≡ 3
unfolding quad
first_takes_effect = refl

-- ## The place of an edit counts from 0, as the cells of a plan do: it is read as the index before

abbrev pub place_from_0 : ObjectId → ℕ
place_from_0 id = first_cell id.object + (id.index - 1)

reads_2 : id_at (place_of (at PhaseMaximum1 2)) ≡ at PhaseMaximum1 2
unfolding first_cell objects
reads_2 = refl

would_read_1 : id_at (place_from_0 (at PhaseMaximum1 2)) ≡ at PhaseMaximum1 1
unfolding first_cell objects
would_read_1 = refl

would_write_257 : place_from_0 (id_at 258) ≡ 257
unfolding first_cell objects
would_write_257 = refl

-- a desk that has a table, with that edit
in_range : IsInRange forty
in_range = record {
  sound = record {
    owned = refl;
    kept = refl;
    none = λ n. absurd (true≢false (ap is_open n));
    once = λ i j d less below. absurd (omega (arith, less, below));
    taken = All-cons (λ (x : Edit). put_refusal x.id x.value ≡ None) (edit PhaseMaximum1 2 40) [] refl (All-nil (λ (x : Edit). put_refusal x.id x.value ≡ None));
    room = omega arith;
  };
  owner = (omega arith, omega arith);
}
