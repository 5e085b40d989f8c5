use Rattle.std.proofs.Common.{◌+◌, ◌-◌, ◌≡◌, ◌≤◌, ℕ, ◌&&◌, ◌||◌, nat_le, nat_lt}
use Rattle.tsb_types.specs.Sets.{has_detector}
use Rattle.tsb_log_text.proofs.list_text.with_run.Given as goal

-- the numbers before this one are in the set
abbrev pub invariant-loop-number : goal.invariant-loop-number
invariant-loop-number l = record {
  from : l.first ≤ l.number;
  within : l.number ≤ l.end + 1;
  has : (n : ℕ) → has_detector l.all n ≡ (has_detector l.fn.on n || (nat_le l.first n && nat_lt n l.number));
}

abbrev pub decreases-loop-number : goal.decreases-loop-number
decreases-loop-number l = l.end + 1 - l.number
