use Rattle.std.proofs.Common.{◌≡◌, ℕ, ◌+◌, ◌≤◌, true, slice_index, count_by}
use Rattle.tsb_objects.specs.Checked.{checked_plan}
use Rattle.tsb_objects.specs.tsb_types.Sets.{has, has_detector, size_of_detectors}
use Rattle.tsb_calls.specs.Memories.{calls, vehicle_detectors}
use Rattle.tsb_calls.specs.Layer.{cells_of, kept_of, is_open, AreSmall, KeepsLists, counted_to}
use Rattle.tsb_calls.proofs.CountLemmas.{taken}
use Rattle.tsb_calls.proofs.calls.Calls.count_actuations.Given as goal

abbrev pub decreases-loop-d : goal.decreases-loop-d
decreases-loop-d l = size_of_detectors l.rest

-- the counts have the actuations of the detectors taken out so far
abbrev pub invariant-loop-d : goal.invariant-loop-d
invariant-loop-d l = record {
  within : (d : ℕ) → has_detector l.rest d ≡ true → has_detector l.initial.rest d ≡ true;
  told : (p : ℕ) → 1 ≤ p → p ≤ 16 → slice_index (cells_of l.self) (1 + p)
      ≡ counted_to (has l.green p) (slice_index (cells_of l.initial.self) (1 + p))
      (count_by (taken (λ d. calls (checked_plan l.plan) d p) (has_detector l.initial.rest) (has_detector l.rest)) (vehicle_detectors (checked_plan l.plan)));
  small : AreSmall (cells_of l.self);
  lists : KeepsLists (cells_of l.initial.self) (cells_of l.self);
  kept : kept_of l.self ≡ kept_of l.initial.self;
  opened : is_open l.self ≡ true;
}
