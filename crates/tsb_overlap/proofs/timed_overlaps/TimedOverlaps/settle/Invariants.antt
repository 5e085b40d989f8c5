use Rattle.std.proofs.Common.{◌≡◌, true, slice_index}
use Rattle.tsb_objects.specs.tsb_types.declared.flow.OverlapLights.{OverlapLights}
use Rattle.tsb_objects.specs.tsb_types.Sets.{size_of_numbers}
use Rattle.tsb_objects.specs.Checked.{checked_plan}
use Rattle.tsb_overlap.specs.Cells.{omitted_in}
use Rattle.tsb_overlap.specs.Overlap.{settled}
use Rattle.tsb_overlap.specs.Layer.{cells_of, kept_of, is_open, KeepsLists}
use Rattle.tsb_overlap.specs.Reading.{given_by}
use Rattle.tsb_overlap.proofs.AlongLemmas.{IsAlong}
use Rattle.tsb_overlap.proofs.timed_overlaps.TimedOverlaps.settle.Given as goal

abbrev pub decreases-loop-number : goal.decreases-loop-number
decreases-loop-number l = size_of_numbers l.rest

-- the overlaps that are not left follow the phases
abbrev pub invariant-loop-number : goal.invariant-loop-number
invariant-loop-number l = record {
  along : (lights : OverlapLights) → IsAlong (settled (checked_plan l.plan) (given_by l.now l.seen (omitted_in (cells_of l.initial.self)) lights))
      l.now (checked_plan l.plan) (cells_of l.initial.self) (cells_of l.self) l.rest;
  omitted : slice_index (cells_of l.self) 5 ≡ slice_index (cells_of l.initial.self) 5;
  lists : KeepsLists (cells_of l.initial.self) (cells_of l.self);
  kept : kept_of l.self ≡ kept_of l.initial.self;
  opened : is_open l.self ≡ true;
}
