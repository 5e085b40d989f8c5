-- Runs from power-up that meet all premises of the other laws of runs, computed: two phases with right of way, a
-- preempt in service, a plan that is committed, answers that are right. And mistakes in the cells of the monitor.
use Rattle.std.specs.Prelude.{◌≡◌, ℕ, true, List, [], ◌∷◌, Some, None, refl}
use Rattle.tsb_machine.specs.tsb_history.declared.kinds.Kind.TheVariants as kinds
use Rattle.tsb_types.specs.declared.interval.Interval.TheVariants.{Green}
use Rattle.tsb_types.specs.declared.stage.Stage.TheVariants.{Dwell}
use Rattle.tsb_types.specs.Sets.{all_off}
use Rattle.tsb_objects.specs.tsb_plan.declared.object.Object.{Object}
use Rattle.tsb_objects.specs.tsb_plan.declared.object.Object.TheVariants.{PhaseRing, PhaseSide, PhaseConcurrency, PhaseMaximum1, SequenceData, PreemptDwellPhase}
use Rattle.tsb_objects.specs.tsb_plan.declared.object.ObjectId.{ObjectId}
use Rattle.tsb_objects.specs.tsb_plan.Plan.{Plan, all_counts, with_values, is_concurrent}
use Rattle.tsb_objects.specs.tsb_plan.Two.{two}
use Rattle.tsb_objects.specs.tsb_rules.Rules.{first_broken}
use Rattle.tsb_objects.proofs.tsb_rules.TwoLemmas.{two-meets}
use Rattle.tsb_heads.specs.declared.monitor.Trip.TheVariants.{Conflict}
use Rattle.tsb_heads.specs.Monitoring.{has_right_of_way}
use Rattle.tsb_ring.specs.Laws.{IsSymmetric, IsGiven, IsSound}
use Rattle.tsb_machine.specs.declared.commands.MachineCommand.TheVariants.{Apply, Undo}
use Rattle.tsb_machine.specs.declared.commands.Answer.{Answer}
use Rattle.tsb_machine.specs.declared.commands.Answer.TheVariants.{Took, Undone}
use Rattle.tsb_step.specs.declared.inputs.Input.{Input}
use Rattle.tsb_step.specs.declared.inputs.Input.TheVariants.{Tick, Switch, Begin, Set, Verify, Commit}
use Rattle.tsb_step.specs.Good.{IsGood}
use Rattle.tsb_step.specs.State.{interval}
use Rattle.tsb_step.specs.Signs.{display, stage}
use Rattle.tsb_step.specs.MonitorCells.{monitor_cells, trip_in}
use Rattle.tsb_step.specs.Play.{Cmd, AreRight, remaining}
use Rattle.tsb_step.specs.Runs.{replay, AreTaken}
use Rattle.tsb_step.specs.Tick.{rings_given}
use Rattle.tsb_step.specs.Laws.{IsConsistent}
use Rattle.tsb_step.proofs.GivenLemmas.{symmetric, given}
use Rattle.tsb_step.proofs.GoodLemmas.{good_run}
use Rattle.tsb_step.proofs.Examples.Scenes.{opened}
use Rattle.tsb_step.proofs.Examples.TimeRuns.{HasNone, none_with, two_none, consistent}

-- ## Displays are safe: 2 and 4 in two rings, on one side and concurrent

abbrev pair_values : List (Object × ℕ × ℕ)
pair_values =
    (PhaseRing, 4, 2) ∷ (PhaseSide, 4, 1) ∷ (PhaseConcurrency, 2, 8) ∷ (PhaseConcurrency, 4, 2) ∷
    (SequenceData, 2, 0) ∷ (SequenceData, 17, 4) ∷ []

unfoldable pair : Plan
pair = with_values two pair_values

pair_count : (pair.phase_count ≡ 16) × (pair.counts ≡ all_counts)
unfolding pair two
pair_count = (refl, refl)

pair_rules : first_broken pair ≡ None
unfolding opened pair two
pair_rules = refl

pair_none : HasNone pair.value
unfolding pair
pair_none = none_with pair_values two refl two_none

pair_consistent : IsConsistent pair
pair_consistent = consistent pair pair_count pair_rules pair_none

abbrev one_tick : List Input
one_tick = Tick all_off ∷ []

pair_taken : AreTaken pair one_tick
unfolding opened pair two
pair_taken = (tt, refl)

way_of_2 : has_right_of_way (display (replay pair one_tick)) 2 ≡ true
unfolding opened pair two
way_of_2 = refl

way_of_4 : has_right_of_way (display (replay pair one_tick)) 4 ≡ true
unfolding opened pair two
way_of_4 = refl

together : is_concurrent (replay pair one_tick).plan 2 4 ≡ true
unfolding opened pair two
together = refl

-- its rings are sound while both are in service, and what they are given in the next tick is what their own laws ask
-- for
good : IsGood (replay pair one_tick)
good = good_run pair one_tick pair_consistent pair_taken

are_sound : IsSound (replay pair one_tick).plan (interval (replay pair one_tick)) (replay pair one_tick).rings
are_sound = good.rings

go_both_ways : IsSymmetric pair
go_both_ways = symmetric pair pair_rules

are_given : IsGiven (replay pair one_tick).plan (rings_given (replay pair one_tick) all_off)
are_given = given (replay pair one_tick) all_off good

-- ## A preempt in service: 1 wants 4

abbrev called_values : List (Object × ℕ × ℕ)
called_values = (PreemptDwellPhase, 1, 8) ∷ []

unfoldable called : Plan
called = with_values two called_values

called_count : (called.phase_count ≡ 16) × (called.counts ≡ all_counts)
unfolding called two
called_count = (refl, refl)

called_rules : first_broken called ≡ None
unfolding opened called two
called_rules = refl

called_none : HasNone called.value
unfolding called
called_none = none_with called_values two refl two_none

called_consistent : IsConsistent called
called_consistent = consistent called called_count called_rules called_none

abbrev switched : List Input
switched = Tick all_off ∷ Tick all_off ∷ Switch 1 true ∷ []

switched_taken : AreTaken called switched
unfolding opened called two
switched_taken = (((tt, refl), refl), refl)

in_service : stage (replay called switched) ≡ Some (1, Dwell)
unfolding opened called two
in_service = refl

serves_4 : interval (replay called switched) 4 ≡ Green
unfolding opened called two
serves_4 = refl

-- ## A plan that is committed: 2 has a maximum green of 30 s

pub two_count : (two.phase_count ≡ 16) × (two.counts ≡ all_counts)
unfolding two
two_count = (refl, refl)

pub two_consistent : IsConsistent two
two_consistent = consistent two two_count two-meets two_none

abbrev maximum_of_2 : ObjectId
maximum_of_2 = record { object = PhaseMaximum1; index = 2 }

abbrev committed : List Input
committed = Commit 1 ∷ Verify 1 ∷ Set 1 maximum_of_2 30 ∷ Begin 1 ∷ []

committed_taken : AreTaken two committed
unfolding opened two
committed_taken = ((((tt, refl), refl), refl), refl)

is_in_effect : (replay two committed).plan.value PhaseMaximum1 2 ≡ 30
unfolding opened two
is_in_effect = refl

-- ## Remaining are taken: a transaction that is undone, and another station's

abbrev asked : List Cmd
asked = Apply (Begin 1) ∷ Undo ∷ Apply (Begin 2) ∷ []

abbrev answered : List Answer
answered = Took ∷ Undone kinds.Begin ∷ Took ∷ []

are_right : AreRight two asked answered
unfolding opened two
are_right = (refl, (refl, (refl, tt)))

remains : remaining two asked answered ≡ Begin 2 ∷ []
remains = refl

-- ## Monitor cells have the monitor: a row without the second phase of a conflict

is_told : trip_in (monitor_cells None (Some (record { cause = Conflict 2 4; tick = 40 }))) ≡ Some (record { cause = Conflict 2 4; tick = 40 })
is_told = refl

has_the_second : monitor_cells None (Some (record { cause = Conflict 2 4; tick = 40 })) ≡ 1 ∷ 2 ∷ 4 ∷ 40 ∷ 0 ∷ 0 ∷ 0 ∷ []
has_the_second = refl

would_tell_another : trip_in (1 ∷ 2 ∷ 0 ∷ 40 ∷ 0 ∷ 0 ∷ 0 ∷ []) ≡ Some (record { cause = Conflict 2 0; tick = 40 })
would_tell_another = refl
