-- Ticks with a mistake in what the rings are given, while all else is as it is; and runs of such ticks.
use Rattle.std.proofs.Common.{◌≡◌, ℕ, zero, suc, ◌+◌, Bool, true, ◌&&◌, refl}
use Rattle.tsb_step.specs.tsb_types.declared.flow.Moves.{Moves}
use Rattle.tsb_step.specs.tsb_types.declared.row.Row.{Row}
use Rattle.tsb_step.specs.tsb_calls.Settled as settled
use Rattle.tsb_step.specs.tsb_phase.Next as phase_next
use Rattle.tsb_step.specs.tsb_ring.Moves as ring_moves
use Rattle.tsb_step.specs.tsb_ring.Next as rings_next
use Rattle.tsb_step.specs.tsb_ring.Rings as rings
use Rattle.tsb_step.specs.State.{State}
use Rattle.tsb_step.specs.Tick as tick
use Rattle.tsb_step.specs.Tick.{rings_given, after_moves}

-- ## A tick in which the rings are given something else

-- what comes of these moves and of what the rings are given: of a controller that has not tripped, before the monitor judges it
abbrev pub moved_by : State → Row → rings.Given → Moves → State
moved_by s row given m = record (after_moves s row) {
  memories = settled.next s.plan (tick.calls_given s row) (record (tick.done s row) { starts = ring_moves.is_started m; ends = ring_moves.is_ended m }) s.memories;
  phases = λ p. phase_next.next s.plan (tick.phases_given s row)
      (record { ends = ring_moves.is_ended m; clears = ring_moves.is_cleared m; starts = ring_moves.is_started m }) p (s.phases p);
  rings = rings_next.next s.plan s.rings given;
}

abbrev pub tick_given : (State → Row → rings.Given) → State → Row → State
tick_given given s row = moved_by s row (given s row) (ring_moves.moves s.plan s.rings (given s row))

-- given what they are given, they do what they do
same_tick : (s : State) (row : Row) → tick_given rings_given s row ≡ after_moves s row
unfolding tick.moves
same_tick s row = refl

-- ## A run of such ticks

-- the state after one more, and whether the test held of each state before it
abbrev pub one_more : (State → Bool) → (State → State) → State × Bool → State × Bool
one_more test go x = (go x.0, x.1 && test x.0)

abbrev pub goes : (State → Bool) → (State → State) → State → ℕ → State × Bool
goes test go s zero = (s, true)
goes test go s (suc n) = one_more test go (goes test go s n)

-- whether the test holds of the state and of the states after each of n ticks
abbrev pub for_all : (State → Bool) → (State → State) → State → ℕ → Bool
for_all test go s n = (goes test go s (n + 1)).1
