-- Runs in which a definition has a mistake from some state on: the wait that a law bounds is then longer than its bound. A
-- mistake here is in what the rings are given, or in the rules of plans; all else is as it is.
use Rattle.std.proofs.Common.{◌≡◌, ◌==◌, true, not, ◌&&◌, ◌||◌, Some, option_map, refl}
use Rattle.tsb_step.specs.tsb_types.declared.row.Row.{Row}
use Rattle.tsb_step.specs.tsb_types.declared.stage.Stage.TheVariants.{Dwell, Exit}
use Rattle.tsb_step.specs.tsb_types.Sets.{all_off}
use Rattle.tsb_step.specs.tsb_plan.declared.object.Object.TheVariants.{PreemptExitPhase}
use Rattle.tsb_step.specs.tsb_plan.Plan.{Plan, side_of, with_value}
use Rattle.tsb_step.specs.tsb_rules.declared.rules.Rule.TheVariants.{K15}
use Rattle.tsb_step.specs.tsb_rules.Rules.{first_broken}
use Rattle.tsb_step.specs.tsb_ring.Rings as rings
use Rattle.tsb_step.specs.tsb_ring.Rings.{Ring1}
use Rattle.tsb_step.specs.tsb_ring.Wants.{is_called_elsewhere}
use Rattle.tsb_step.specs.declared.inputs.Input.TheVariants.{Tick}
use Rattle.tsb_step.specs.State.{State}
use Rattle.tsb_step.specs.Tick.{rings_given}
use Rattle.tsb_step.specs.Runs.{replay}
use Rattle.tsb_step.proofs.Examples.Scenes.{opened}
use Rattle.tsb_laws.specs.PreemptStages.{is_in_stage, serves_stage, time_to_stage}
use Rattle.tsb_laws.specs.ServedCalls.{is_waiting, longest_green, time_to_come}
use Rattle.tsb_laws.proofs.safety.Examples.TickRuns.{ticks}
use Rattle.tsb_laws.proofs.safety.Examples.MistakenTicks.{tick_given, for_all}
use Rattle.tsb_laws.proofs.safety.Examples.StretchRuns.{gone}
use Rattle.tsb_laws.proofs.operation.Examples.PreemptStageRuns.{engine, began, left}
use Rattle.tsb_laws.proofs.operation.Examples.ServedRuns.{brisk, alone, cars}

-- ## A ring that crosses the barrier as soon as another side is called

abbrev crosses_first : State → Row → rings.Given
crosses_first s row = record (rings_given s row) {
  callable = λ p. (rings_given s row).callable p && (not (is_called_elsewhere s.plan s.rings (rings_given s row)) || not (side_of s.plan p == s.rings.side));
}

-- 2 comes within 83 ticks
comes_within_83 : time_to_come (replay brisk alone) Ring1 30 10 ≡ 83
unfolding opened brisk longest_green
comes_within_83 = refl

would_not_come : for_all (λ s. is_waiting 2 s (Tick cars)) (λ s. tick_given crosses_first s cars) (replay brisk alone) 84 ≡ true
unfolding opened brisk
would_not_come = refl

-- ## A preempt whose rings look for its phases on their own side alone

abbrev looks_here : State → Row → rings.Given
looks_here s row = record (rings_given s row) {
  target = option_map (λ list p. list p && (side_of s.plan p == s.rings.side)) (rings_given s row).target;
}

-- its stage is reached within 75 ticks
reaches_within_75 : time_to_stage 10 0 30 ≡ 75
reaches_within_75 = refl

would_not_reach : for_all (λ s. is_in_stage 1 Dwell s.preempts.service && not (serves_stage 1 Dwell s)) (λ s. tick_given looks_here s all_off) (replay engine began) 76 ≡ true
unfolding opened engine
would_not_reach = refl

-- ## A rule that lets phases in an exit list that are not concurrent

-- 2 and 4 are on different sides
unfoldable apart : Plan
apart = with_value engine PreemptExitPhase 1 10

is_refused : first_broken apart ≡ Some K15
unfolding opened engine apart
is_refused = refl

would_not_leave : (gone (λ s i. is_in_stage 1 Exit s.preempts.service) (replay apart left) (ticks all_off 77)).1 ≡ true
unfolding opened engine apart
would_not_leave = refl
