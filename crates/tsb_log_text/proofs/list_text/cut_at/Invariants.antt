use Rattle.std.proofs.Common.{length, ◌-◌, ◌≡◌, ◌≤◌, ◌<◌, ℕ, eqb, false, get_or}
use Rattle.tsb_log_text.proofs.list_text.cut_at.Given as goal

-- no byte so far is the one
abbrev pub invariant-loop-end : goal.invariant-loop-end
invariant-loop-end l = record {
  within : l.end ≤ length l.bytes;
  clear : (k : ℕ) → k < l.end → eqb (get_or l.bytes k 0) l.at ≡ false;
}

abbrev pub decreases-loop-end : goal.decreases-loop-end
decreases-loop-end l = length l.bytes - l.end
