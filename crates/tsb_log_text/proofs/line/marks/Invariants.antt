use Rattle.std.proofs.Common.{◌≡◌, ℕ, ◌+◌, ◌<◌, ◌≤◌, get_or, length}
use Rattle.tsb_types.specs.Sets.{has_number}
use Rattle.tsb_log_text.specs.LogText.{mark}
use Rattle.tsb_log_text.proofs.line.marks.Given as goal

-- the marks so far are in their places, and the others are those of inputs that are off
abbrev pub invariant-loop-k : goal.invariant-loop-k
invariant-loop-k g l = record {
  full : length l.all ≡ g.row.N;
  placed : (j : ℕ) → j < l.k → get_or l.all j 0 ≡ mark (has_number l.on (1 + j));
  off : (j : ℕ) → l.k ≤ j → j < g.row.N → get_or l.all j 0 ≡ 48;
}
