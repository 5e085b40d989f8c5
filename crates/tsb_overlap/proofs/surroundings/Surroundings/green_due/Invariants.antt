use Rattle.std.proofs.Common.{◌≡◌, ℕ, ◌<◌, ◌≤◌, true, false}
use Rattle.tsb_cells.specs.Timer.{timer_at, has_reached}
use Rattle.tsb_objects.specs.tsb_types.Flow.{interval_of}
use Rattle.tsb_objects.specs.tsb_types.Intervals.{is_green}
use Rattle.tsb_objects.specs.tsb_types.Sets.{has, size}
use Rattle.tsb_overlap.specs.Reading.{since_in}
use Rattle.tsb_overlap.proofs.surroundings.Surroundings.green_due.Given as goal

abbrev pub decreases-loop-phase : goal.decreases-loop-phase
decreases-loop-phase l = size l.rest

-- up to then the delay of each phase gone over is over or not as at `now`
abbrev pub invariant-loop-phase : goal.invariant-loop-phase
invariant-loop-phase l = record {
  told : (t p : ℕ) → l.now ≤ t → t < l.due → has l.rest p ≡ false → has l.fn.phases p ≡ true → is_green (interval_of l.self.intervals p) ≡ true →
      has_reached (timer_at t (since_in l.self p)) l.time ≡ has_reached (timer_at l.now (since_in l.self p)) l.time;
}
