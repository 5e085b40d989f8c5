use Rattle.std.proofs.Common.{◌≡◌, ℕ, ◌≤◌, slice_index, length}
use Rattle.tsb_layer_runs.proofs.numbers.Numbers.counts.Given as goal

-- what is read so far is small, and so is what is left
abbrev pub invariant-loop-k : goal.invariant-loop-k
invariant-loop-k l = record {
  full : length l.vehicles ≡ 16;
  small : (j : ℕ) → slice_index l.vehicles j ≤ 255;
}
