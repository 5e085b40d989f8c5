use Rattle.std.proofs.Common.{◌≡◌, true, slice_index}
use Rattle.tsb_objects.specs.tsb_types.Sets.{has, size_of_numbers}
use Rattle.tsb_objects.specs.Checked.{checked_plan}
use Rattle.tsb_overlap.specs.Overlap.{run_on}
use Rattle.tsb_overlap.specs.Layer.{cells_of, kept_of, is_open, KeepsLists}
use Rattle.tsb_overlap.proofs.AlongLemmas.{IsAlong, AreHeldSoFar, holds_at}
use Rattle.tsb_overlap.proofs.timed_overlaps.TimedOverlaps.run_on.Given as goal

abbrev pub decreases-loop-number : goal.decreases-loop-number
decreases-loop-number l = size_of_numbers l.rest

-- the overlaps that are not left are as the tick begins with them, and what they hold is held
abbrev pub invariant-loop-number : goal.invariant-loop-number
invariant-loop-number l = record {
  along : IsAlong (run_on (checked_plan l.plan) l.is_preempted) l.now (checked_plan l.plan) (cells_of l.initial.self) (cells_of l.self) l.rest;
  held : AreHeldSoFar (has l.held) (holds_at l.now l.is_preempted (checked_plan l.plan) (cells_of l.initial.self)) l.rest;
  omitted : slice_index (cells_of l.self) 5 ≡ slice_index (cells_of l.initial.self) 5;
  lists : KeepsLists (cells_of l.initial.self) (cells_of l.self);
  kept : kept_of l.self ≡ kept_of l.initial.self;
  opened : is_open l.self ≡ true;
}
