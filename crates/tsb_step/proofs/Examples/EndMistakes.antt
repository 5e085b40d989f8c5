-- Further mistakes that laws refuse, each in a run that meets the law's premises (TimeRuns): by computing what comes of
-- it, and beside it what the definitions as they are make of the same.
use Rattle.std.specs.Prelude.{◌≡◌, ℕ, not, ◌&&◌, Bool, true, false, if◌then◌else◌, [], ◌∷◌, Some, None, refl}
use Rattle.tsb_cells.specs.declared.timer.Timer.TheVariants.{On}
use Rattle.tsb_types.specs.declared.interval.Interval.TheVariants.{Yellow, RedClear}
use Rattle.tsb_types.specs.declared.interval.PedestrianInterval.{PedestrianInterval}
use Rattle.tsb_types.specs.declared.interval.PedestrianInterval.TheVariants.{DontWalk, PedestrianClear}
use Rattle.tsb_types.specs.declared.lamp.Aspect.{Aspect}
use Rattle.tsb_types.specs.declared.lamp.Aspect.TheVariants as aspects
use Rattle.tsb_types.specs.Intervals.{in_service, is_green, is_yellow, is_clearance}
use Rattle.tsb_types.specs.Sets.{all_off}
use Rattle.tsb_objects.specs.tsb_plan.Plan.{Plan, yellow_change}
use Rattle.tsb_objects.specs.tsb_plan.Two.{two}
use Rattle.tsb_phase.specs.Pedestrian.{clearance_time}
use Rattle.tsb_phase.specs.Phase.{Phase}
use Rattle.tsb_heads.specs.Heads.{Shown}
use Rattle.tsb_heads.specs.Overlaps.{is_kept_green}
use Rattle.tsb_transact.specs.Desk.{closed}
use Rattle.tsb_step.specs.declared.inputs.Input.TheVariants.{Tick, Begin, Reset}
use Rattle.tsb_step.specs.State.{State, interval, pedestrian_part}
use Rattle.tsb_step.specs.Tick.{over}
use Rattle.tsb_step.specs.Signs.{display, shown}
use Rattle.tsb_step.specs.Step.{step}
use Rattle.tsb_step.specs.Runs.{replay}
use Rattle.tsb_step.specs.TimeLaws.{held_for, is_yellow_head}
use Rattle.tsb_step.proofs.Examples.Scenes.{opened}
use Rattle.tsb_step.proofs.Examples.TimeRuns.{brisk, at, ticks_after}

-- ## Ended have held: a pedestrian clearance that ends after one tick

abbrev clears_for_a_tick : PedestrianInterval → PedestrianInterval
clears_for_a_tick PedestrianClear = DontWalk
clears_for_a_tick x = x

clears_on : pedestrian_part (at 12) 2 ≡ PedestrianClear
unfolding opened two brisk
clears_on = refl

lasts_10 : clearance_time (at 11).plan 2 None ≡ 10
unfolding opened two brisk
lasts_10 = refl

has_held_0 : held_for (λ s. is_clearance (pedestrian_part s 2)) brisk (ticks_after [] 11) ≡ 0
unfolding opened two brisk
has_held_0 = refl

would_not_clear : clears_for_a_tick (pedestrian_part (at 11) 2) ≡ DontWalk
unfolding opened two brisk
would_not_clear = refl

-- ## Ended have held: a yellow's timer that starts late

abbrev starts_at_99 : Phase → Phase
starts_at_99 x = record x { timer = On 99 }

abbrev all_at_99 : State → State
all_at_99 s = record s { phases = λ p. starts_at_99 (s.phases p) }

abbrev late : State
late = all_at_99 (at 21)

stays_yellow : interval (at 22) 2 ≡ Yellow
unfolding opened two brisk
stays_yellow = refl

lasts_30 : yellow_change (at 21).plan 2 ≡ 30
unfolding opened two brisk
lasts_30 = refl

held_none : held_for (λ s. is_yellow (interval s 2)) brisk (ticks_after [] 21) ≡ 0
unfolding opened two brisk
held_none = refl

would_end : interval (step late (Tick all_off)) 2 ≡ RedClear
unfolding opened two brisk
would_end = refl

-- ## Overlaps clear in yellow: an overlap that drops from green to red

abbrev without_yellow : Plan → Shown → ℕ → Aspect
without_yellow plan s o = if is_kept_green plan s o then aspects.Green else aspects.Red

was_green : (display (at 20)).overlap 1 ≡ aspects.Green
unfolding opened two brisk
was_green = refl

shows_yellow : (display (at 21)).overlap 1 ≡ aspects.Yellow
unfolding opened two brisk
shows_yellow = refl

no_yellow_before : held_for (λ s. is_yellow_head ((display s).overlap 1)) brisk (ticks_after [] 20) ≡ 0
unfolding opened two brisk
no_yellow_before = refl

would_drop : without_yellow (at 21).plan (shown (at 21)) 1 ≡ aspects.Red
unfolding opened two brisk
would_drop = refl

-- ## A phase that goes Red is over: one that is cleared as its green has ended

abbrev clears_at_once : State → ℕ → Bool
clears_at_once s p = in_service (interval s p) && not (is_green (interval s p))

is_not_over : over (at 30) 2 ≡ false
unfolding opened two brisk
is_not_over = refl

would_be_cleared : clears_at_once (at 30) 2 ≡ true
unfolding opened two brisk
would_be_cleared = refl

-- ## Only the desk's inputs and commits change the desk: a reset that closes it

abbrev begun : State
begun = replay brisk (Begin 1 ∷ [])

abbrev reset_closes : State → State
reset_closes s = record (step s Reset) { desk = closed }

keeps_owner : (step begun Reset).desk.owner ≡ Some 1
unfolding opened two brisk
keeps_owner = refl

would_be_closed : (reset_closes begun).desk.owner ≡ None
would_be_closed = refl
