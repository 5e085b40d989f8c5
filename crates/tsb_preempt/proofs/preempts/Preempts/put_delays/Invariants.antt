use Rattle.std.proofs.Common.{◌≡◌, ℕ, ◌+◌, ◌<◌, ◌≤◌, true, slice_index}
use Rattle.tsb_types.specs.Sets.{has_number}
use Rattle.tsb_preempt.specs.Rows.{delay_cell}
use Rattle.tsb_preempt.specs.Layer.{cells_of, kept_of, is_open}
use Rattle.tsb_preempt.proofs.preempts.Preempts.put_delays.Given as goal

-- the delay timers gone over are those of this tick, and no other cell has changed
abbrev pub invariant-loop-n : goal.invariant-loop-n
invariant-loop-n l = record {
  from : 1 ≤ l.n;
  done : (k : ℕ) → 1 ≤ k → k < l.n → slice_index (cells_of l.self) (1 + k) ≡ delay_cell l.now (has_number l.inputs k) (slice_index (cells_of l.fn.self) (1 + k));
  left : (k : ℕ) → l.n ≤ k → slice_index (cells_of l.self) (1 + k) ≡ slice_index (cells_of l.fn.self) (1 + k);
  before : (j : ℕ) → j < 2 → slice_index (cells_of l.self) j ≡ slice_index (cells_of l.fn.self) j;
  kept : kept_of l.self ≡ kept_of l.fn.self;
  opened : is_open l.self ≡ true;
}
