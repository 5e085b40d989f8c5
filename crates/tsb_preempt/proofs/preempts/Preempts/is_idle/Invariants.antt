use Rattle.std.proofs.Common.{◌≡◌, ℕ, ◌+◌, ◌<◌, ◌≤◌, slice_index}
use Rattle.tsb_types.specs.declared.limits.TheConstants.{PREEMPTS}
use Rattle.tsb_preempt.specs.Layer.{cells_of}
use Rattle.tsb_preempt.proofs.preempts.Preempts.is_idle.Given as goal

-- it is 0 only where none is in service and none of the delay timers gone over runs
abbrev pub invariant-loop-n : goal.invariant-loop-n
invariant-loop-n l = record {
  from : 1 ≤ l.n;
  serving : l.cells ≡ 0 → slice_index (cells_of l.self) (2 + PREEMPTS) ≡ 0;
  delays : l.cells ≡ 0 → (k : ℕ) → 1 ≤ k → k < l.n → slice_index (cells_of l.self) (1 + k) ≡ 0;
}
