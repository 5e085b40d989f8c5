use Rattle.std.proofs.Common.{◌≡◌, ℕ, ◌+◌, ◌<◌, get_or, length}
use Rattle.tsb_types.proofs.numbers.Number.first.Given as goal

-- the numbers so far are in their places
abbrev pub invariant-loop-k : goal.invariant-loop-k
invariant-loop-k g l = record {
  full : length l.all ≡ g.row.N;
  placed : (j : ℕ) → j < l.k → get_or l.all j 0 ≡ 1 + j;
}
