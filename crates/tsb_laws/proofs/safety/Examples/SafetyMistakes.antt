-- What the laws of safety refuse: for each law a mistake in the definitions, and by computing what comes of it. Beside each
-- stands what the definitions as they are make of the same state.
use Rattle.std.specs.Prelude.{◌≡◌, ℕ, Bool, true, false, not, ◌&&◌, [], ◌∷◌, Option, Some, None, is_some, refl}
use Rattle.tsb_step.specs.tsb_types.Sets.{all_off}
use Rattle.tsb_step.specs.tsb_types.declared.interval.Interval.TheVariants.{Green, Red, Yellow, RedClear}
use Rattle.tsb_step.specs.tsb_types.declared.interval.PedestrianInterval.TheVariants.{PedestrianClear}
use Rattle.tsb_step.specs.tsb_types.declared.refusal.Refusal.TheVariants.{InService}
use Rattle.tsb_step.specs.tsb_types.Intervals.{is_green, is_walk}
use Rattle.tsb_step.specs.tsb_types.declared.row.Row.{Row}
use Rattle.tsb_step.specs.tsb_cells.declared.timer.Timer.TheVariants.{On}
use Rattle.tsb_step.specs.tsb_plan.declared.object.Object.TheVariants.{PhaseEnabled, SplitMode}
use Rattle.tsb_step.specs.tsb_types.Lists.{some_passes}
use Rattle.tsb_step.specs.tsb_plan.Plan.{Plan, phases, is_enabled, is_concurrent, with_values}
use Rattle.tsb_step.specs.tsb_plan.Quad.{quad}
use Rattle.tsb_step.specs.tsb_calls.Callable.{is_called}
use Rattle.tsb_step.specs.tsb_phase.Phase as phase
use Rattle.tsb_step.specs.tsb_phase.Phase.{Phase}
use Rattle.tsb_step.specs.tsb_phase.Pedestrian.{ended_by, pedestrian_now}
use Rattle.tsb_step.specs.tsb_phase.Ready.{yellow_is_done, has_timed_out, green_is_done}
use Rattle.tsb_step.specs.tsb_ring.Rings as rings
use Rattle.tsb_step.specs.tsb_ring.Rings.{Ring, Ring1, Ring2, other, own_ring, serving}
use Rattle.tsb_step.specs.tsb_ring.Next.{is_none_or_over, may_start, starting}
use Rattle.tsb_step.proofs.tsb_ring.Examples.Scenes.{both}
use Rattle.tsb_step.specs.tsb_transact.declared.desk_state.DeskState.TheVariants.{Done}
use Rattle.tsb_step.specs.declared.inputs.Input.TheVariants.{Tick, Commit}
use Rattle.tsb_step.specs.State.{State, interval}
use Rattle.tsb_step.specs.Tick.{phase_read, phases_given, calls_given, set, callable, omitted, ready, rings_given}
use Rattle.tsb_step.specs.Step.{step, verdict}
use Rattle.tsb_step.specs.Runs.{replay}
use Rattle.tsb_step.proofs.Examples.Scenes.{opened, vehicle, resting, walking, at_barrier, entering, coordinated, these, all_red}
use Rattle.tsb_step.proofs.Examples.StepExamples.{edit, editing}
use Rattle.tsb_laws.proofs.safety.Examples.MistakenTicks.{tick_given, for_all}
use Rattle.tsb_laws.proofs.safety.Examples.CommitmentRuns.{brief, ended}
use Rattle.tsb_laws.proofs.safety.Examples.AllRedRuns.{reverting, came}

-- ## Intergreens hold: a clearance that is over as its yellow ends, whatever its red clearance

-- 2 and 6 have been Yellow for 29 ticks, of 30, and have to be in red clearance for 10 before 3 and 8 start
abbrev yellow_29 : Phase
yellow_29 = record phase.at_power_up { interval = Yellow; timer = On 29 }

abbrev at_barrier_in_yellow : State
at_barrier_in_yellow = record at_barrier { phases = these (2 ∷ 6 ∷ []) yellow_29 all_red }

pub are_apart : is_concurrent quad 2 3 ≡ false
unfolding opened
are_apart = refl

clears_on : interval (step at_barrier_in_yellow (Tick all_off)) 2 ≡ RedClear
unfolding opened
clears_on = refl

waits_3 : interval (step at_barrier_in_yellow (Tick all_off)) 3 ≡ Red
unfolding opened
waits_3 = refl

abbrev over_after_yellow : rings.Given
over_after_yellow = record (rings_given at_barrier_in_yellow all_off) { over = λ p. yellow_is_done quad p (phase_read at_barrier_in_yellow p) }

-- 3 would start 30 ticks after the green of 2, where 40 are due
would_start_3 : starting quad at_barrier_in_yellow.rings over_after_yellow Ring1 ≡ Some 3
unfolding opened
would_start_3 = refl

-- ## Walks are cleared: a green that waits for the walk alone, and not for the clearance

-- the pedestrians of 2 have cleared for 9 ticks, of 60
abbrev still_clearing : State
still_clearing = record walking { phases = λ p. record (walking.phases p) { pedestrian = PedestrianClear; pedestrian_timer = On 9 } }

is_not_ready : ready still_clearing all_off 2 ≡ false
unfolding opened
is_not_ready = refl

abbrev ready_after_walk : State → Row → ℕ → Bool
ready_after_walk s row p =
    is_green (interval s p)
    && (not (is_walk (pedestrian_now s.plan (phases_given s row) p (phase_read s p)))
    && green_is_done s.plan (phases_given s row) p (phase_read s p) (ended_by (phases_given s row) p))

would_be_ready : ready_after_walk still_clearing all_off 2 ≡ true
unfolding opened
would_be_ready = refl

-- ## Commitments are served: a commitment that waits until the other ring has cleared, too

-- ring 1 has cleared 1 and is committed to 2; 6 is Green in ring 2, and goes with 2
starts_2 : interval (step entering (Tick all_off)) 2 ≡ Green
unfolding opened
starts_2 = refl

abbrev may_start_alone : Plan → rings.Given → Ring → ℕ → Bool
may_start_alone plan given r c =
    is_none_or_over given (serving plan given r) && given.reverted c && is_none_or_over given (serving plan given (other r))

-- 2 would wait for as long as 6 is Green
would_wait : may_start_alone quad (rings_given entering all_off) Ring1 2 ≡ false
unfolding opened
would_wait = refl

-- so in a run: 1 has ended and 2 is due within 40 ticks, but 6 rests in Green
abbrev waits_for_both : State → Row → rings.Given
waits_for_both s row = record (rings_given s row) {
  reverted = λ c. (rings_given s row).reverted c && not (some_passes (λ p. is_green (interval s p)) (phases s.plan));
}

would_not_start : for_all (λ s. not (is_green (interval s 2))) (λ s. tick_given waits_for_both s all_off) (replay brief ended) 40 ≡ true
unfolding opened brief
would_not_start = refl

-- ## Crossings complete: a crossing that wants a commitment of each ring

abbrev one_commits : State
one_commits = record at_barrier { rings = record at_barrier.rings { commitment = both (Some 3) None } }

starts_3 : interval (step one_commits (Tick all_off)) 3 ≡ Green
unfolding opened
starts_3 = refl

abbrev may_start_committed : Plan → rings.Given → Ring → Option ℕ → Bool
may_start_committed plan given r None = false
may_start_committed plan given r (Some c) = may_start plan given r (Some c)

-- it would never be completed
would_not_complete : (may_start_committed quad (rings_given one_commits all_off) Ring1 (one_commits.rings.commitment Ring1)
    && may_start_committed quad (rings_given one_commits all_off) Ring2 (one_commits.rings.commitment Ring2)) ≡ false
unfolding opened
would_not_complete = refl

-- so in a run: 2 of ring 1 clears and 4 of ring 2 is due within 31 ticks, but a ring clears only for a commitment
abbrev clears_committed : State → Row → rings.Given
clears_committed s row = record (rings_given s row) {
  over = λ p. (rings_given s row).over p && is_some (s.rings.commitment (own_ring s.plan p));
}

would_not_cross : for_all (λ s. is_some s.rings.crossing) (λ s. tick_given clears_committed s (vehicle 2)) (replay reverting came) 31 ≡ true
unfolding opened reverting
would_not_cross = refl

-- ## Enabled phases are served: a commit of phaseEnabled that does not wait

abbrev disabling : State
disabling = editing Done (edit PhaseEnabled 2 0 ∷ []) resting

has_to_wait : verdict disabling (Commit 1) ≡ Some InService
unfolding opened
has_to_wait = refl

would_be_disabled : is_enabled (step disabling (Commit 1)).plan 2 ≡ false
unfolding opened
would_be_disabled = refl

would_be_green : interval (step disabling (Commit 1)) 2 ≡ Green
unfolding opened
would_be_green = refl

-- ## Coordinated greens end by their force-off: one that a gap ends

-- pattern 1 runs at local 100; 2 and 6 are coordinated and have gapped out, 3 is called, and the force-off comes at 760
is_held : ready (coordinated 100) all_off 2 ≡ false
unfolding opened
is_held = refl

would_time_out : has_timed_out quad (phases_given (coordinated 100) all_off) 2 (phase_read (coordinated 100) 2) ≡ true
unfolding opened
would_time_out = refl

-- ## Omitted phases are not served: a call that an omit leaves

-- split mode 5 omits 3 in pattern 1
unfoldable omits_3 : Plan
omits_3 = with_values quad ((SplitMode, 3, 5) ∷ [])

abbrev omitting : State
omitting = record (coordinated 100) { plan = omits_3 }

is_omitted : omitted omitting 3 ≡ true
unfolding opened omits_3
is_omitted = refl

is_not_callable : callable omitting all_off 3 ≡ false
unfolding opened omits_3
is_not_callable = refl

would_be_called : is_called omits_3 (calls_given omitting all_off) (set omitting all_off) 3 ≡ true
unfolding opened omits_3
would_be_called = refl
