use Rattle.std.proofs.Common.{◌≡◌, ℕ, ◌<◌, true, slice_index}
use Rattle.tsb_overlap.specs.Layer.{cells_of, kept_of, is_open}
use Rattle.tsb_overlap.proofs.timed_overlaps.TimedOverlaps.clear.Given as goal

abbrev pub invariant-loop-at : goal.invariant-loop-at
invariant-loop-at l = record {
  zero : (k : ℕ) → k < l.at → slice_index (cells_of l.self) k ≡ 0;
  kept : kept_of l.self ≡ kept_of l.fn.self;
  opened : is_open l.self ≡ true;
}
