-- What the definitions give, by computing: commits while the rings or a preempt serve, and a conversation over the
-- built-in plan of two phases.
use Rattle.std.specs.Prelude.{◌≡◌, ℕ, true, false, List, [], ◌∷◌, ◌==◌, if◌then◌else◌, Option, Some, None, refl}
use Rattle.tsb_objects.specs.tsb_types.Lists.{run_from}
use Rattle.tsb_objects.specs.tsb_types.declared.interval.Interval.{Interval}
use Rattle.tsb_objects.specs.tsb_types.declared.interval.Interval.TheVariants.{Red, RedClear}
use Rattle.tsb_objects.specs.tsb_types.declared.refusal.Refusal.TheVariants.{NotVerified, InService}
use Rattle.tsb_objects.specs.tsb_rules.declared.rules.Rule.TheVariants.{K8}
use Rattle.tsb_objects.specs.tsb_rules.Rules.{first_broken, broken_by_rings, broken_by_phases, broken_by_parts, broken_by_extensions, broken_by_schedule, broken_by_overlaps}
use Rattle.tsb_plan.specs.declared.object.Object.TheVariants.{PhaseSide, PhaseConcurrency, PhaseMaximum1, PhaseYellowChange, PreemptDelay, PreemptTrackPhase, PreemptDwellPhase, PreemptExitPhase}
use Rattle.tsb_plan.specs.Quad.{quad}
use Rattle.tsb_plan.specs.Two.{two}
use Rattle.tsb_transact.specs.declared.desk_state.DeskState.TheVariants.{Verify, Done}
use Rattle.tsb_transact.specs.declared.edit.Edit.{Edit}
use Rattle.tsb_transact.specs.Desk.{Desk}
use Rattle.tsb_transact.specs.Commit.{forgets_last_phases, serves}
use Rattle.tsb_transact.specs.Calls.{commit_refusal, begun, with_set, verified}
use Rattle.tsb_transact.proofs.Examples.Examples.{at, edit, apart, checked}

-- ## When the rings serve

abbrev pub all_red : ℕ → Interval
all_red p = Red

abbrev pub none_committed : ℕ → Option ℕ
none_committed r = None

at_power_up : serves quad all_red none_committed None ≡ false
unfolding quad run_from
at_power_up = refl

in_red_clearance : serves quad (λ p. if p == 16 then RedClear else Red) none_committed None ≡ true
unfolding quad run_from
in_red_clearance = refl

-- either ring's commitment is enough
first_committed : serves quad all_red (λ r. if r == 1 then Some 2 else None) None ≡ true
unfolding quad run_from
first_committed = refl

second_committed : serves quad all_red (λ r. if r == 2 then Some 6 else None) None ≡ true
unfolding quad run_from
second_committed = refl

crossing : serves quad all_red none_committed (Some 2) ≡ true
unfolding quad run_from
crossing = refl

-- ## The commit that takes phases 1 and 5 apart, while the rings serve, and while a preempt does

waits_for_phases : commit_refusal quad 1 true false checked ≡ Some InService
unfolding quad
waits_for_phases = refl

for_no_preempt : commit_refusal quad 1 false true checked ≡ None
unfolding quad
for_no_preempt = refl

-- what was not verified is answered before what has to wait
verify_is_first : commit_refusal quad 1 true false apart ≡ Some NotVerified
verify_is_first = refl

-- an edit that gives phase 1 the list that it has is no change
abbrev pub equal : List Edit
equal = edit PhaseConcurrency 1 48 ∷ edit PhaseMaximum1 2 40 ∷ []

abbrev pub done_with : List Edit → Desk
done_with edits = record { owner = Some 1; state = Done; rule = None; edits = edits }

equal_commits : commit_refusal quad 1 true true (done_with equal) ≡ None
unfolding quad
equal_commits = refl

equal_forgets_nothing : forgets_last_phases quad equal ≡ false
unfolding quad
equal_forgets_nothing = refl

-- each of a preempt's three lists waits for every preempt, and for no phase; a preempt's time waits for neither
track_waits : commit_refusal quad 1 false true (done_with (edit PreemptTrackPhase 1 132 ∷ [])) ≡ Some InService
unfolding quad
track_waits = refl

dwell_waits : commit_refusal quad 1 true true (done_with (edit PreemptDwellPhase 2 136 ∷ [])) ≡ Some InService
unfolding quad
dwell_waits = refl

exit_waits : commit_refusal quad 1 false true (done_with (edit PreemptExitPhase 1 132 ∷ [])) ≡ Some InService
unfolding quad
exit_waits = refl

abbrev pub three_lists : List Edit
three_lists = edit PreemptTrackPhase 1 132 ∷ edit PreemptDwellPhase 2 136 ∷ edit PreemptExitPhase 1 132 ∷ []

for_no_phase : commit_refusal quad 1 true false (done_with three_lists) ≡ None
unfolding quad
for_no_phase = refl

delay_commits : commit_refusal quad 1 true true (done_with (edit PreemptDelay 2 3 ∷ [])) ≡ None
unfolding quad
delay_commits = refl

-- ## Station 3 changes the plan of two phases

abbrev pub short_yellow : Desk
short_yellow = with_set (at PhaseYellowChange 2) 29 (begun 3)

too_short : verified two short_yellow ≡ record short_yellow { state = Verify; rule = Some K8 }
unfolding two first_broken broken_by_rings broken_by_phases run_from
too_short = refl

abbrev pub long_yellow : Desk
long_yellow = with_set (at PhaseYellowChange 2) 35 short_yellow

long_enough : verified two long_yellow ≡ record long_yellow { state = Done }
unfolding two first_broken broken_by_rings broken_by_phases broken_by_parts broken_by_extensions broken_by_schedule broken_by_overlaps run_from
long_enough = refl

-- a transaction of no edits is in order
nothing_to_do : verified two (begun 3) ≡ record (begun 3) { state = Done }
unfolding two first_broken broken_by_rings broken_by_phases broken_by_parts broken_by_extensions broken_by_schedule broken_by_overlaps run_from
nothing_to_do = refl

-- another side for phase 4 is a change of the structure
abbrev pub other_side : Desk
other_side = with_set (at PhaseSide 4) 3 (begun 3)

other_side_is_done : verified two other_side ≡ record other_side { state = Done }
unfolding two first_broken broken_by_rings broken_by_phases broken_by_parts broken_by_extensions broken_by_schedule broken_by_overlaps run_from
other_side_is_done = refl

other_side_waits : commit_refusal two 3 true false (record other_side { state = Done }) ≡ Some InService
unfolding two
other_side_waits = refl
