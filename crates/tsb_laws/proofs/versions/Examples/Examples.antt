-- What both benches show, by computing, on the built-in plans, each given with 8 phases and 2 sides and with 16 and 4.
use Rattle.std.specs.Prelude.{◌≡◌, ℕ, ◌==◌, true, ◌||◌, if◌then◌else◌, List, [], ◌∷◌, map, Option, Some, None, refl}
use Rattle.tsb_step.specs.tsb_types.Sets.{all_off}
use Rattle.tsb_step.specs.tsb_types.Lists.{run_from}
use Rattle.tsb_step.specs.tsb_types.declared.interval.Interval.TheVariants as intervals
use Rattle.tsb_step.specs.tsb_types.declared.lamp.Aspect.{Aspect}
use Rattle.tsb_step.specs.tsb_types.declared.lamp.Aspect.TheVariants.{Dark, Red, Yellow, Green, FlashingRed}
use Rattle.tsb_step.specs.tsb_types.declared.lamp.Lamp.TheVariants as lamps
use Rattle.tsb_step.specs.tsb_types.declared.lamp.SignalColor.TheVariants as signals
use Rattle.tsb_step.specs.tsb_cells.declared.timer.Timer.TheVariants.{On}
use Rattle.tsb_step.specs.tsb_plan.Plan.{Plan}
use Rattle.tsb_step.specs.tsb_plan.Quad.{quad}
use Rattle.tsb_step.specs.tsb_plan.Two.{two}
use Rattle.tsb_step.specs.tsb_rules.PatternRules.{split_sum, side_sum, split_end, coordinated_count}
use Rattle.tsb_step.specs.tsb_rules.Rules.{first_broken, broken_by_rings, broken_by_phases, broken_by_parts, broken_by_extensions, broken_by_schedule, broken_by_overlaps}
use Rattle.tsb_step.specs.tsb_heads.Overlaps.{is_kept_green, is_on_yellow}
use Rattle.tsb_step.specs.tsb_heads.Monitoring.{has_green_arrow, conflict_of, conflict, green_to_red}
use Rattle.tsb_step.specs.tsb_overlap.Overlap as overlaps
use Rattle.tsb_step.specs.tsb_calls.Memories.{has_output, actuations, has_button, vehicle_memory, pedestrian_memory, counted}
use Rattle.tsb_step.specs.tsb_calls.Memories as calls
use Rattle.tsb_step.specs.tsb_calls.Callable.{is_callable, has_conflict}
use Rattle.tsb_step.specs.tsb_phase.Phase as phase
use Rattle.tsb_step.specs.tsb_phase.Ready.{is_ready, is_over, red_revert_passed}
use Rattle.tsb_step.specs.tsb_phase.Pedestrian.{pedestrian_now}
use Rattle.tsb_step.specs.tsb_phase.DynamicMaximum.{maximum_in_use}
use Rattle.tsb_step.specs.tsb_phase.Green.{reduction_timer, gap, initial, cars_waiting}
use Rattle.tsb_step.specs.tsb_ring.Rings.{Ring, Ring1, Ring2, serving}
use Rattle.tsb_step.specs.tsb_ring.Wants.{fits, want, pick_of_ring_1, want_of, pick}
use Rattle.tsb_step.specs.tsb_ring.Crossings.{begins, target_side, entry, committed}
use Rattle.tsb_step.specs.tsb_ring.Next.{completes, starting, ends, clears, new_last, new_commitment, new_side, new_crossing}
use Rattle.tsb_step.specs.tsb_ring.Next as rings_next
use Rattle.tsb_step.specs.tsb_ring.Moves as ring_moves
use Rattle.tsb_step.specs.tsb_coord.Coordinated.{force_off}
use Rattle.tsb_step.specs.tsb_preempt.Preempts as preempts
use Rattle.tsb_step.specs.tsb_preempt.Service.{all_green}
use Rattle.tsb_step.specs.declared.inputs.Input.{Input}
use Rattle.tsb_step.specs.declared.inputs.Input.TheVariants.{Tick, Switch, Fault}
use Rattle.tsb_step.specs.State.{State, start}
use Rattle.tsb_step.specs.Tick.{new_service, new_detectors, phases_given, held, rings_given, moves, gives_up, new_rings}
use Rattle.tsb_step.specs.Signs.{display, field, watched}
use Rattle.tsb_step.specs.Step.{step, verdict}
use Rattle.tsb_step.specs.Runs.{replay}
use Rattle.tsb_laws.specs.BuiltIn.{narrow_two, narrow_quad}

-- all that a step computes
unfoldable pub opened : Unit {0}
unfolding quad two narrow_two narrow_quad run_from first_broken broken_by_rings broken_by_phases broken_by_parts broken_by_extensions broken_by_schedule broken_by_overlaps split_sum side_sum split_end coordinated_count is_kept_green is_on_yellow has_output actuations has_button vehicle_memory pedestrian_memory counted is_callable has_conflict is_ready is_over red_revert_passed pedestrian_now maximum_in_use reduction_timer gap initial cars_waiting serving fits want pick_of_ring_1 want_of pick begins target_side entry committed completes starting ends clears new_last new_commitment new_side new_crossing rings_next.next ring_moves.moves ring_moves.interval_after force_off preempts.requesting preempts.beginning preempts.new_service preempts.dwell_ends all_green has_green_arrow conflict_of conflict green_to_red overlaps.run_on overlaps.is_held overlaps.may_flash overlaps.settled overlaps.next new_service new_detectors phases_given held rings_given moves gives_up new_rings display field watched step verdict
opened = tt

-- the vehicle heads of phases 1 to 8
abbrev heads : State → List Aspect
heads s = map (display s).vehicle (run_from 1 8)

-- ## From power-up

-- phases 2 and 6 of eight have minimum recall
abbrev resting : List Aspect
resting = Red ∷ Green ∷ Red ∷ Red ∷ Red ∷ Green ∷ Red ∷ Red ∷ []

narrow_starts : heads (replay narrow_quad (Tick all_off ∷ [])) ≡ resting
unfolding opened
narrow_starts = refl

wide_starts : heads (replay quad (Tick all_off ∷ [])) ≡ resting
unfolding opened
wide_starts = refl

narrow_two_starts : heads (replay narrow_two (Tick all_off ∷ [])) ≡ Dark ∷ Green ∷ Dark ∷ Red ∷ Dark ∷ Dark ∷ Dark ∷ Dark ∷ []
unfolding opened
narrow_two_starts = refl

two_starts : heads (replay two (Tick all_off ∷ [])) ≡ Dark ∷ Green ∷ Dark ∷ Red ∷ Dark ∷ Dark ∷ Dark ∷ Dark ∷ []
unfolding opened
two_starts = refl

-- with the switch of preempt 1, which wants 3 and 8, both are served from the second tick on
abbrev preempted : List Input
preempted = Tick all_off ∷ Tick all_off ∷ Switch 1 true ∷ []

narrow_preempted : heads (replay narrow_quad preempted) ≡ Red ∷ Red ∷ Green ∷ Red ∷ Red ∷ Red ∷ Red ∷ Green ∷ []
unfolding opened
narrow_preempted = refl

wide_preempted : heads (replay quad preempted) ≡ Red ∷ Red ∷ Green ∷ Red ∷ Red ∷ Red ∷ Red ∷ Green ∷ []
unfolding opened
wide_preempted = refl

-- a lamp of phase 3 beside phases 2 and 6 trips both
abbrev faulty : List Input
faulty = Fault (Some (lamps.Phase 3 signals.Green)) ∷ Tick all_off ∷ []

abbrev flash : List Aspect
flash = FlashingRed ∷ FlashingRed ∷ FlashingRed ∷ FlashingRed ∷ FlashingRed ∷ FlashingRed ∷ FlashingRed ∷ FlashingRed ∷ []

narrow_trips : heads (replay narrow_quad faulty) ≡ flash
unfolding opened
narrow_trips = refl

wide_trips : heads (replay quad faulty) ≡ flash
unfolding opened
wide_trips = refl

-- ## From a state that is written out

abbrev both_of : Option ℕ → Option ℕ → Ring → Option ℕ
both_of one other Ring1 = one
both_of one other Ring2 = other

-- phases 2 and 6 were Green for 200 ticks, in conflict as 3 is called
unfoldable called : Plan → State
unfolding opened
called plan = record (start plan) {
  now = 200;
  memories = record calls.at_power_up { vehicle = λ p. p == 3 };
  phases = λ p. if p == 2 || p == 6 then record phase.at_power_up {
    interval = intervals.Green;
    timer = On 199;
    passage = On 199;
    conflict = On 199;
  } else phase.at_power_up;
  rings = record { last = both_of (Some 2) (Some 6); commitment = both_of None None; side = 1; crossing = None };
}

-- both rings cross, and end their greens
abbrev crossing : List Aspect
crossing = Red ∷ Yellow ∷ Red ∷ Red ∷ Red ∷ Yellow ∷ Red ∷ Red ∷ []

narrow_crosses : heads (step (called narrow_quad) (Tick all_off)) ≡ crossing
unfolding opened called
narrow_crosses = refl

wide_crosses : heads (step (called quad) (Tick all_off)) ≡ crossing
unfolding opened called
wide_crosses = refl
