-- What the laws of times refuse: for each law a mistake in the definitions, and by computing what comes of it. Beside
-- each is what the definitions as they are make of the same state, and so that the law's premises can be met.
use Rattle.std.specs.Prelude.{◌≡◌, ℕ, nat_le, ◌==◌, Bool, true, false, if◌then◌else◌, [], ◌∷◌, Option, Some, None, refl}
use Rattle.tsb_types.specs.Sets.{all_off}
use Rattle.tsb_types.specs.declared.interval.Interval.TheVariants.{Green, Red, Yellow, RedClear}
use Rattle.tsb_types.specs.declared.interval.PedestrianInterval.{PedestrianInterval}
use Rattle.tsb_types.specs.declared.interval.PedestrianInterval.TheVariants.{Walk, PedestrianClear}
use Rattle.tsb_types.specs.declared.lamp.Aspect.TheVariants as aspects
use Rattle.tsb_types.specs.declared.lamp.Lamp.{Lamp}
use Rattle.tsb_types.specs.declared.lamp.Lamp.TheVariants as lamps
use Rattle.tsb_types.specs.declared.lamp.SignalColor.TheVariants as signals
use Rattle.tsb_types.specs.declared.refusal.Refusal.TheVariants.{NotOpen}
use Rattle.tsb_types.specs.Intervals.{is_green}
use Rattle.tsb_cells.specs.declared.timer.Timer.{Timer}
use Rattle.tsb_cells.specs.declared.timer.Timer.TheVariants.{On}
use Rattle.tsb_cells.specs.Timer.{has_reached}
use Rattle.tsb_objects.specs.tsb_plan.declared.object.Object.TheVariants.{PhaseMinimumGreen}
use Rattle.tsb_objects.specs.tsb_plan.Plan.{Plan, red_revert, side_of}
use Rattle.tsb_objects.specs.tsb_plan.Quad.{quad}
use Rattle.tsb_phase.specs.Phase as phase
use Rattle.tsb_phase.specs.Phase.{Phase, Given, Moved, none_moved}
use Rattle.tsb_phase.specs.Moves.{unforced}
use Rattle.tsb_phase.specs.Pedestrian.{walk_time, after_walk, may_walk_again, pedestrian_now}
use Rattle.tsb_phase.specs.Next.{new_forced}
use Rattle.tsb_heads.specs.declared.monitor.Trip.TheVariants.{Conflict}
use Rattle.tsb_heads.specs.Heads.{aspect_of}
use Rattle.tsb_heads.specs.Monitoring.{conflict}
use Rattle.tsb_ring.specs.Rings.{Ring1}
use Rattle.tsb_transact.specs.declared.desk_state.DeskState.TheVariants.{Done}
use Rattle.tsb_step.specs.declared.inputs.Input.TheVariants.{Tick, Pattern, Commit}
use Rattle.tsb_machine.specs.declared.commands.MachineCommand.TheVariants.{Apply}
use Rattle.tsb_machine.specs.declared.commands.Answer.TheVariants.{Took}
use Rattle.tsb_step.proofs.Examples.Scenes.{opened, button, resting, walking, red, at_barrier, these, all_red}
use Rattle.tsb_step.proofs.Examples.StepExamples.{edit, editing}
use Rattle.tsb_step.proofs.Examples.TickExamples.{clearing_2}
use Rattle.tsb_step.specs.State.{State, start, interval, pedestrian_part}
use Rattle.tsb_step.specs.Tick.{phases_given, phase_read, reverted}
use Rattle.tsb_step.specs.Signs.{display, field}
use Rattle.tsb_step.specs.Step.{step, verdict, with_pattern}
use Rattle.tsb_step.specs.Runs.{replay}
use Rattle.tsb_step.specs.Play.{remaining}
use Rattle.tsb_step.specs.TimeLaws.{held_for}

-- ## Timers count time: a green's timer that starts late

-- 2 starts in the first tick: one tick later it has been Green for one
told_1 : ((replay quad (Tick all_off ∷ Tick all_off ∷ [])).phases 2).timer ≡ On 1
unfolding opened
told_1 = refl

held_1 : held_for (λ s. is_green (interval s 2)) quad (Tick all_off ∷ Tick all_off ∷ []) ≡ 1
unfolding opened
held_1 = refl

abbrev starts_at_99 : Phase → Phase
starts_at_99 x = record x { timer = On 99 }

-- where it starts the law asks for 0
held_0 : held_for (λ s. is_green (interval s 2)) quad (Tick all_off ∷ []) ≡ 0
unfolding opened
held_0 = refl

would_tell_99 : (starts_at_99 ((replay quad (Tick all_off ∷ [])).phases 2)).timer ≡ On 99
would_tell_99 = refl

-- ## Others leave phases: a selected pattern that restarts the timers of greens

abbrev pattern_restarts : ℕ → State → State
pattern_restarts n s = record (with_pattern n s) { phases = λ p. record (unforced (s.phases p)) { timer = On 0 } }

leaves_59 : ((step resting (Pattern 0)).phases 2).timer ≡ On 59
unfolding opened
leaves_59 = refl

would_restart : ((pattern_restarts 0 resting).phases 2).timer ≡ On 0
would_restart = refl

-- ## Others leave phases: a commit that restarts interval timers

-- another minimum green of 2, which is Green
abbrev committing : State
committing = editing Done (edit PhaseMinimumGreen 2 30 ∷ []) resting

commit_leaves_59 : ((step committing (Commit 1)).phases 2).timer ≡ On 59
unfolding opened
commit_leaves_59 = refl

abbrev commit_restarts : State → State
commit_restarts s = record (step s (Commit 1)) { phases = λ p. record (s.phases p) { timer = On 0 } }

would_restart_too : ((commit_restarts committing).phases 2).timer ≡ On 0
would_restart_too = refl

-- ## Ticks end in time: a walk that ends after one tick

abbrev walk_ends_at_once : Plan → Given → ℕ → PedestrianInterval → PedestrianInterval
walk_ends_at_once plan given p Walk = after_walk plan given p
walk_ends_at_once plan given p x = x

has_not_lasted : has_reached (phase_read walking 2).pedestrian_timer (walk_time quad 2 None) ≡ false
unfolding opened
has_not_lasted = refl

walks_on : pedestrian_part (step walking (Tick all_off)) 2 ≡ Walk
unfolding opened
walks_on = refl

would_clear : walk_ends_at_once quad (phases_given walking all_off) 2 (pedestrian_part walking 2) ≡ PedestrianClear
unfolding opened
would_clear = refl

-- ## Ticks end in time: a walk by pedestrian recycle that begins before the clearance has ended

abbrev walk_for_clearance : Plan → Given → ℕ → Phase → PedestrianInterval
walk_for_clearance plan given p w = if may_walk_again given p w then Walk else pedestrian_now plan given p w

still_clears : pedestrian_part (step clearing_2 (Tick (button 2))) 2 ≡ PedestrianClear
unfolding opened
still_clears = refl

would_walk_first : walk_for_clearance clearing_2.plan (phases_given clearing_2 (button 2)) 2 (phase_read clearing_2 2) ≡ Walk
unfolding opened
would_walk_first = refl

-- ## Phases clear in yellow: a yellow that ends after a few ticks

-- 2 has been Yellow for 9 ticks, of 30
abbrev yellowing : State
yellowing = record red { phases = these (2 ∷ []) (record phase.at_power_up { interval = Yellow; timer = On 9 }) all_red }

shows_yellow_on : (display (step yellowing (Tick all_off))).vehicle 2 ≡ aspects.Yellow
unfolding opened
shows_yellow_on = refl

-- its yellow change time would be as good as 9
would_be_done : has_reached (phase_read yellowing 2).timer 9 ≡ true
would_be_done = refl

would_show_red : aspect_of RedClear ≡ aspects.Red
would_show_red = refl

-- ## Starts after red revert: a red revert that never waits

-- 2 has been Red for 9 ticks since its yellow, of 20
abbrev reverting : State
reverting = record red { phases = these (2 ∷ []) (record phase.at_power_up { red_revert = On 9 }) all_red }

is_too_early : nat_le (red_revert quad 2) 10 ≡ false
unfolding opened
is_too_early = refl

may_not_start : reverted reverting 2 ≡ false
unfolding opened
may_not_start = refl

abbrev passes_at_once : Timer → ℕ → Bool
passes_at_once t limit = true

would_pass : passes_at_once (phase_read reverting 2).red_revert (red_revert quad 2) ≡ true
would_pass = refl

-- ## Commitments stay in runs: a pattern that cancels them

abbrev pattern_cancels : ℕ → State → State
pattern_cancels n s = record (with_pattern n s) { rings = record s.rings { commitment = λ r. None } }

stands_3 : (step at_barrier (Pattern 0)).rings.commitment Ring1 ≡ Some 3
unfolding opened
stands_3 = refl

would_cancel : (pattern_cancels 0 at_barrier).rings.commitment Ring1 ≡ None
would_cancel = refl

has_not_started : interval (pattern_cancels 0 at_barrier) 3 ≡ Red
has_not_started = refl

-- ## Phases rest: a forced latch that outlives its green

abbrev ends_2 : Moved
ends_2 = record none_moved { ends = λ p. p == 2 }

abbrev forced_2 : State
forced_2 = record resting { phases = λ p. record (resting.phases p) { forced = true } }

is_taken_back : new_forced quad (phases_given forced_2 all_off) ends_2 2 (phase_read forced_2 2) ≡ false
is_taken_back = refl

would_stay : (phase_read forced_2 2).forced ≡ true
would_stay = refl

-- ## Fields are safe unless tripped: a lamp on which the monitor does not look at once

abbrev lit_unseen : Option Lamp → State → State
lit_unseen lamp s = record s { lamp = lamp }

would_conflict : conflict quad (field (lit_unseen (Some (lamps.Phase 3 signals.Green)) resting)) ≡ Some (Conflict 2 3)
unfolding opened
would_conflict = refl

would_not_trip : (lit_unseen (Some (lamps.Phase 3 signals.Green)) resting).trip ≡ None
would_not_trip = refl

-- ## Remaining are taken: an answer that says Took where the input is refused

is_refused : verdict (start quad) (Commit 1) ≡ Some NotOpen
unfolding opened
is_refused = refl

would_remain : remaining quad (Apply (Commit 1) ∷ []) (Took ∷ []) ≡ Commit 1 ∷ []
would_remain = refl

-- ## Sides are served: a crossing that is completed and leaves the side as it was

serves_3 : interval (step at_barrier (Tick all_off)) 3 ≡ Green
unfolding opened
serves_3 = refl

is_on_side_2 : side_of quad 3 ≡ 2
unfolding opened
is_on_side_2 = refl

serves_side_2 : (step at_barrier (Tick all_off)).rings.side ≡ 2
unfolding opened
serves_side_2 = refl

would_serve_side_1 : at_barrier.rings.side ≡ 1
would_serve_side_1 = refl
