use Rattle.std.proofs.Common.{◌≡◌, ℕ, ◌+◌, ◌<◌, get_or, length, if◌then◌else◌}
use Rattle.tsb_types.specs.Sets.{has_number}
use Rattle.tsb_display_text.proofs.letters.with_letter.Given as goal

-- the letters so far are in their places
abbrev pub invariant-loop-k : goal.invariant-loop-k
invariant-loop-k g l = record {
  full : length l.all ≡ g.row.N;
  placed : (j : ℕ) → j < l.k → get_or l.all j 0 ≡ (if has_number l.heads (1 + j) then l.letter else get_or l.letters j 0);
}
