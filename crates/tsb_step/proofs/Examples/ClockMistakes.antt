-- What the law of clocks refuses, by computing: definitions with one mistake, and beside them what the step makes.
use Rattle.std.specs.Prelude.{◌≡◌, ℕ, Some, None, refl}
use Rattle.tsb_coord.specs.Correction.{clocked, in_step, in_step_from}
use Rattle.tsb_ring.specs.Rings as rings
use Rattle.tsb_ring.specs.Rings.{Ring1}
use Rattle.tsb_step.specs.declared.inputs.Input.TheVariants.{Pattern, Reset, Clock}
use Rattle.tsb_step.specs.State.{State, restarted}
use Rattle.tsb_step.specs.Step.{step, with_clock}
use Rattle.tsb_step.proofs.Examples.Scenes.{opened, resting, coordinated}
use Rattle.tsb_step.proofs.Examples.StepExamples.{at_seven, stopped}

-- without a clock
counts_ticks : clocked (coordinated 60).plan (Some 1) (step (coordinated 60) (Pattern 2)).correction 500 ≡ 500
unfolding opened
counts_ticks = refl

-- a reset that keeps the midnight of the pattern that ran
abbrev reset_with_midnight : State → State
reset_with_midnight s = record (restarted s) { correction = in_step_from 7163940 }

starts_anew : (step stopped Reset).correction ≡ in_step
unfolding opened
starts_anew = refl

-- from 7:00 at tick 60 on the counter of pattern 1 would be 740 ticks further, where no pattern is selected
would_count_on : clocked stopped.plan (Some 1) (reset_with_midnight stopped).correction 500 ≡ 1240
unfolding opened
would_count_on = refl

-- a clock that lets the rings forget what they started last
abbrev clock_forgets : ℕ → State → State
clock_forgets m s = record (with_clock m s) { rings = rings.forgotten s.rings }

forgets_not : (step resting (Clock at_seven)).rings.last Ring1 ≡ Some 2
unfolding opened
forgets_not = refl

would_forget : (clock_forgets at_seven resting).rings.last Ring1 ≡ None
unfolding opened
would_forget = refl
