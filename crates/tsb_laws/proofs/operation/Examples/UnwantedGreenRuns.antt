-- A run from power-up in which a green waits under a preempt for another to be ready, and a mistake that the law of such
-- greens refuses.
use Rattle.std.proofs.Common.{◌≡◌, ℕ, ◌≤◌, true, false, List, [], ◌∷◌, Some, None, refl}
use Rattle.tsb_step.specs.tsb_types.Sets.{all_off}
use Rattle.tsb_step.specs.tsb_types.declared.interval.Interval.TheVariants.{Green, Yellow}
use Rattle.tsb_step.specs.tsb_types.declared.row.Row.{Row}
use Rattle.tsb_step.specs.tsb_plan.Plan.{Plan}
use Rattle.tsb_step.specs.tsb_plan.Quad.{quad}
use Rattle.tsb_step.specs.tsb_ring.declared.want.Want.{Want}
use Rattle.tsb_step.specs.tsb_ring.declared.want.Want.TheVariants.{Rest}
use Rattle.tsb_step.specs.tsb_ring.Rings.{Ring1}
use Rattle.tsb_step.specs.tsb_ring.Wants.{want_by_calls}
use Rattle.tsb_step.specs.declared.inputs.Input.{Input}
use Rattle.tsb_step.specs.declared.inputs.Input.TheVariants.{Tick, Switch}
use Rattle.tsb_step.specs.State.{interval}
use Rattle.tsb_step.specs.Tick.{service, must_end, ready, rings_given}
use Rattle.tsb_step.specs.Runs.{replay, AreTaken}
use Rattle.tsb_step.specs.Laws.{IsConsistent}
use Rattle.tsb_step.proofs.Examples.Scenes.{opened, after, preempt, resting}
use Rattle.tsb_laws.proofs.safety.Examples.CommitmentRuns.{brief, brief_known}

-- ## 1 and 6 are Green, preempt 1 is switched on, which brings 3 and 8; 1 is ready, and 6 is not

abbrev switched : List Input
switched = Switch 1 true ∷ Tick all_off ∷ []

taken : AreTaken brief switched
unfolding opened brief
taken = ((tt, refl), refl)

dark : (replay brief switched).trip ≡ None
unfolding opened brief
dark = refl

serves_1 : service (replay brief switched) all_off ≡ Some 1
unfolding opened brief
serves_1 = refl

unwanted : must_end (replay brief switched) all_off 1 ≡ true
unfolding opened brief
unwanted = refl

fit : ready (replay brief switched) all_off 1 ≡ true
unfolding opened brief
fit = refl

was_green : interval (replay brief switched) 1 ≡ Green
unfolding opened brief
was_green = refl

stays : interval (replay brief (Tick all_off ∷ switched)) 1 ≡ Green
unfolding opened brief
stays = refl

waits_for_6 : ready (replay brief switched) all_off 6 ≡ false
unfolding opened brief
waits_for_6 = refl

record Wait (plan : Plan) (is : List Input) (row : Row) (n p : ℕ) : Type 0 where
  consistent : IsConsistent plan
  few : plan.phase_count ≤ 16
  taken : AreTaken plan is
  untripped : (replay plan is).trip ≡ None
  served : service (replay plan is) row ≡ Some n
  unwanted : must_end (replay plan is) row p ≡ true
  fit : ready (replay plan is) row p ≡ true
  was_green : interval (replay plan is) p ≡ Green
  stays : interval (replay plan (Tick row ∷ is)) p ≡ Green

a_wait : Wait brief switched all_off 1 1
a_wait = record {
  consistent = brief_known.consistent;
  few = brief_known.few;
  taken = taken;
  untripped = dark;
  served = serves_1;
  unwanted = unwanted;
  fit = fit;
  was_green = was_green;
  stays = stays;
}

-- ## A preempt in whose service rings go on by calls, and rest where there is none

-- 2 and 6 are Green, and may end
is_unwanted : must_end resting (preempt 1) 2 ≡ true
unfolding opened
is_unwanted = refl

is_fit : ready resting (preempt 1) 2 ≡ true
unfolding opened
is_fit = refl

ends_2 : interval (after resting (preempt 1)) 2 ≡ Yellow
unfolding opened
ends_2 = refl

abbrev by_calls : Want
by_calls = want_by_calls quad resting.rings (rings_given resting (preempt 1)) Ring1 None

would_rest : by_calls ≡ Rest
unfolding opened
would_rest = refl
