use Rattle.std.proofs.Common.{◌≡◌, ℕ, ◌+◌, ◌<◌, ◌≤◌, slice_index}
use Rattle.tsb_types.specs.Sets.{has_number}
use Rattle.tsb_preempt.specs.Rows.{delay_cell}
use Rattle.tsb_preempt.specs.Layer.{cells_of}
use Rattle.tsb_preempt.proofs.preempts.Preempts.has_delays.Given as goal

-- the delay timers gone over follow their inputs
abbrev pub invariant-loop-n : goal.invariant-loop-n
invariant-loop-n l = record {
  from : 1 ≤ l.n;
  follows : (k : ℕ) → 1 ≤ k → k < l.n → (t : ℕ) → slice_index (cells_of l.self) (1 + k) ≡ delay_cell t (has_number l.inputs k) (slice_index (cells_of l.self) (1 + k));
}
