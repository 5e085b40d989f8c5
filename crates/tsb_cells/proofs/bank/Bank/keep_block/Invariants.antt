use Rattle.std.proofs.Common.{◌≡◌, ◌≢◌, ℕ, ◌+◌, ◌/◌, ◌<◌, ◌≤◌, slice_index, true}
use Rattle.tsb_cells.proofs.bank.Bank.keep_block.Given as goal

-- what the block's first `k` cells hold is kept, and what is kept of other blocks stays
abbrev pub invariant-loop-k : goal.invariant-loop-k
invariant-loop-k g l = record {
  here : (j : ℕ) → l.first ≤ j → j < l.first + l.k → j < g.row.N → slice_index l.self.before j ≡ slice_index l.self.cells j;
  others : (j : ℕ) → j / (g.row.N / 64 + 1) ≢ l.block → slice_index l.self.before j ≡ slice_index l.initial.self.before j;
  cells : l.self.cells ≡ l.initial.self.cells;
  written : l.self.written ≡ l.initial.self.written;
  opened : l.self.is_open ≡ true;
}
