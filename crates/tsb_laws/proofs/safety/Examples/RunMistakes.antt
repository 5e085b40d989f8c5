-- What the laws of times of tsb_step refuse besides what stands there: for each a mistake in the definitions, and by computing
-- what comes of it. Beside each stands what the definitions as they are make of the same state.
use Rattle.std.specs.Prelude.{◌≡◌, ℕ, nat_le, Bool, true, false, ◌||◌, [], ◌∷◌, Option, Some, None, is_some, is_none, if◌then◌else◌, refl}
use Rattle.tsb_step.specs.tsb_types.Sets.{all_off}
use Rattle.tsb_step.specs.tsb_types.declared.interval.Interval.{Interval}
use Rattle.tsb_step.specs.tsb_types.declared.interval.Interval.TheVariants.{Green, Red, Yellow, RedClear}
use Rattle.tsb_step.specs.tsb_types.declared.interval.PedestrianInterval.{PedestrianInterval}
use Rattle.tsb_step.specs.tsb_types.declared.interval.PedestrianInterval.TheVariants.{DontWalk, Walk, PedestrianClear}
use Rattle.tsb_step.specs.tsb_types.declared.lamp.Aspect.{Aspect}
use Rattle.tsb_step.specs.tsb_types.declared.lamp.Aspect.TheVariants as aspects
use Rattle.tsb_step.specs.tsb_types.Intervals.{is_green, is_yellow}
use Rattle.tsb_step.specs.tsb_cells.declared.timer.Timer.{Timer}
use Rattle.tsb_step.specs.tsb_cells.declared.timer.Timer.TheVariants.{On}
use Rattle.tsb_step.specs.tsb_cells.Timer.{has_reached}
use Rattle.tsb_step.specs.tsb_plan.Plan.{Plan, yellow_change}
use Rattle.tsb_step.specs.tsb_plan.Quad.{quad}
use Rattle.tsb_step.specs.tsb_phase.Phase as phase
use Rattle.tsb_step.specs.tsb_phase.Phase.{Phase, Moved}
use Rattle.tsb_step.specs.tsb_phase.Pedestrian.{clearance_time}
use Rattle.tsb_step.specs.tsb_ring.Rings as rings
use Rattle.tsb_step.specs.tsb_ring.Rings.{Ring, Ring1, own_ring}
use Rattle.tsb_step.specs.tsb_ring.Crossings.{committed}
use Rattle.tsb_step.specs.tsb_ring.Next.{starting}
use Rattle.tsb_step.specs.tsb_ring.Moves.{is_cleared}
use Rattle.tsb_step.specs.declared.inputs.Input.TheVariants.{Tick, Pattern}
use Rattle.tsb_step.specs.State.{State, interval, pedestrian_part}
use Rattle.tsb_step.specs.Tick.{service, phase_read, over, rings_given, moves, moved}
use Rattle.tsb_step.specs.Signs.{display}
use Rattle.tsb_step.specs.Step.{step, with_pattern}
use Rattle.tsb_step.specs.Runs.{replay}
use Rattle.tsb_step.specs.TimeLaws.{held_for}
use Rattle.tsb_step.proofs.Examples.Scenes.{opened, after, preempt, green, clearing, these, all_red, red, resting, walking, at_barrier}
use Rattle.tsb_laws.proofs.safety.Examples.CommitmentRuns.{brief, ended}

-- ## Ticks end in time: a walk that drops to DontWalk, whatever its clearance

abbrev drops : PedestrianInterval → PedestrianInterval
drops Walk = DontWalk
drops x = x

has_a_clearance : clearance_time quad 2 None ≡ 60
unfolding opened
has_a_clearance = refl

would_drop : drops (pedestrian_part walking 2) ≡ DontWalk
would_drop = refl

-- ## Ticks end in time: a pedestrian clearance that ends after one tick

-- the pedestrians of 2 have cleared since one tick, of 60
abbrev cleared_1 : State
cleared_1 = record red { phases = these (2 ∷ []) (record (green 59) { pedestrian = PedestrianClear; pedestrian_timer = On 0 }) all_red }

has_not_lasted : has_reached (phase_read cleared_1 2).pedestrian_timer (clearance_time quad 2 None) ≡ false
unfolding opened
has_not_lasted = refl

clears_on : pedestrian_part (after cleared_1 all_off) 2 ≡ PedestrianClear
unfolding opened
clears_on = refl

abbrev clearance_ends_at_once : PedestrianInterval → PedestrianInterval
clearance_ends_at_once PedestrianClear = DontWalk
clearance_ends_at_once x = x

would_end : clearance_ends_at_once (pedestrian_part cleared_1 2) ≡ DontWalk
would_end = refl

-- ## Ended have held: a yellow that ends after one tick

-- the yellow of 1 began in the newest tick, and lasts 30
has_begun : held_for (λ s. is_yellow (interval s 1)) brief ended ≡ 0
unfolding opened brief
has_begun = refl

is_too_short : nat_le (yellow_change brief 1) 1 ≡ false
unfolding opened brief
is_too_short = refl

is_yellow_then : interval (replay brief (Tick all_off ∷ ended)) 1 ≡ Yellow
unfolding opened brief
is_yellow_then = refl

abbrev yellow_ends_at_once : Interval → Interval
yellow_ends_at_once Yellow = RedClear
yellow_ends_at_once x = x

would_be_cleared : yellow_ends_at_once (interval (replay brief ended) 1) ≡ RedClear
unfolding opened brief
would_be_cleared = refl

-- ## Cleared are over: a phase that goes Red in its yellow

-- 2 has been Yellow for 9 ticks, of 30
abbrev yellowing : State
yellowing = record red { phases = these (2 ∷ []) (record phase.at_power_up { interval = Yellow; timer = On 9 }) all_red }

is_not_over : over yellowing 2 ≡ false
unfolding opened
is_not_over = refl

does_not_clear : is_cleared (moves yellowing all_off) 2 ≡ false
unfolding opened
does_not_clear = refl

abbrev clears_early : Plan → rings.State → rings.Given → ℕ → Bool
clears_early plan s given p = is_none (committed plan s given (own_ring plan p)) || is_some (starting plan s given (own_ring plan p))

would_go_red : clears_early quad yellowing.rings (rings_given yellowing all_off) 2 ≡ true
unfolding opened
would_go_red = refl

-- ## Phases clear in yellow: a selected pattern that cuts a yellow short

abbrev cut_short : Phase → Phase
cut_short x = if is_yellow x.interval then record x { interval = RedClear; timer = On 0 } else x

abbrev pattern_cuts : ℕ → State → State
pattern_cuts n s = record (with_pattern n s) { phases = λ p. cut_short (s.phases p) }

shows_yellow_on : (display (step yellowing (Pattern 0))).vehicle 2 ≡ aspects.Yellow
unfolding opened
shows_yellow_on = refl

would_show_red : (display (pattern_cuts 0 yellowing)).vehicle 2 ≡ aspects.Red
unfolding opened
would_show_red = refl

-- ## Overlaps clear in yellow: an overlap that drops from green to red

-- preempt 1 ends the greens of 2 and 6; overlap 1 includes 2
shows_green : (display resting).overlap 1 ≡ aspects.Green
unfolding opened
shows_green = refl

goes_yellow : (display (after resting (preempt 1))).overlap 1 ≡ aspects.Yellow
unfolding opened
goes_yellow = refl

-- red wherever no phase that it includes is Green
abbrev without_yellow : Bool → Aspect
without_yellow kept = if kept then aspects.Green else aspects.Red

would_drop_to_red : without_yellow (is_green (interval (after resting (preempt 1)) 1) || is_green (interval (after resting (preempt 1)) 2)) ≡ aspects.Red
unfolding opened
would_drop_to_red = refl

-- ## Timers tell time: a red revert that is counted from the end of the red clearance

-- 2 has been in red clearance for 9 ticks, of 10
abbrev in_red_clear : State
in_red_clear = record red { phases = these (2 ∷ []) (clearing 9) all_red }

runs_on : ((after in_red_clear all_off).phases 2).red_revert ≡ On 10
unfolding opened
runs_on = refl

abbrev reverts_from_red : Moved → ℕ → Phase → Timer
reverts_from_red moved p w = if moved.clears p then On 0 else w.red_revert

would_begin_anew : reverts_from_red (moved in_red_clear all_off) 2 (phase_read in_red_clear 2) ≡ On 0
unfolding opened
would_begin_anew = refl

-- ## Starts after red revert: a red revert that is counted from the beginning of the yellow

-- 2 has been Yellow for 20 ticks: the timer that begins as its green ends would have passed as its yellow ends
abbrev reverts_from_yellow : Phase → Timer
reverts_from_yellow w = if is_yellow w.interval then w.timer else w.red_revert

abbrev yellow_29 : State
yellow_29 = record red { phases = these (2 ∷ []) (record phase.at_power_up { interval = Yellow; timer = On 29 }) all_red }

begins_now : ((after yellow_29 all_off).phases 2).red_revert ≡ On 0
unfolding opened
begins_now = refl

would_have_passed : has_reached (reverts_from_yellow (phase_read yellow_29 2)) 20 ≡ true
would_have_passed = refl

-- ## Commitments stand in runs: a preempt that cancels them

-- the crossing to 3 and 8 waits for 2 and 6 to clear, and preempt 2 wants 4 and 7
abbrev waiting : State
waiting = record at_barrier { phases = these (2 ∷ 6 ∷ []) (clearing 5) all_red }

is_in_service : service waiting (preempt 2) ≡ Some 2
unfolding opened
is_in_service = refl

stands_3 : (after waiting (preempt 2)).rings.commitment Ring1 ≡ Some 3
unfolding opened
stands_3 = refl

abbrev preempt_cancels : Option ℕ → rings.State → Ring → Option ℕ
preempt_cancels None s r = s.commitment r
preempt_cancels (Some n) s r = None

would_cancel : preempt_cancels (service waiting (preempt 2)) waiting.rings Ring1 ≡ None
unfolding opened
would_cancel = refl

has_not_started : interval (after waiting (preempt 2)) 3 ≡ Red
unfolding opened
has_not_started = refl
