use Rattle.std.proofs.Common.{◌≡◌, ℕ, ◌&&◌, true, false}
use Rattle.tsb_cells.specs.Timer.{timer_at, has_reached}
use Rattle.tsb_objects.specs.tsb_types.Flow.{interval_of}
use Rattle.tsb_objects.specs.tsb_types.Intervals.{is_green}
use Rattle.tsb_objects.specs.tsb_types.Sets.{has, size}
use Rattle.tsb_overlap.specs.Reading.{since_in}
use Rattle.tsb_overlap.proofs.surroundings.Surroundings.has_green.Given as goal

abbrev pub decreases-loop-phase : goal.decreases-loop-phase
decreases-loop-phase l = size l.rest

-- none of the phases gone over has been Green for so long
abbrev pub invariant-loop-phase : goal.invariant-loop-phase
invariant-loop-phase l = record {
  some : (p : ℕ) → has l.rest p ≡ true → (has l.fn.phases p && is_green (interval_of l.self.intervals p)) ≡ true;
  none : (p : ℕ) → has l.rest p ≡ false → (has l.fn.phases p && (is_green (interval_of l.self.intervals p) && has_reached (timer_at l.now (since_in l.self p)) l.time)) ≡ false;
}
