use Rattle.std.proofs.Common.{◌≡◌, ◌≤◌, ◌<◌, ℕ, get_or}
use Rattle.tsb_event_text.proofs.written.count_of.Given as goal

-- after those that are left stand zeros alone
abbrev pub invariant-loop-count : goal.invariant-loop-count
invariant-loop-count l =
    (1 ≤ l.count) × (l.count ≤ 9) × ((k : ℕ) → l.count ≤ k → k < 9 → get_or l.digits k 0 ≡ 48)

abbrev pub decreases-loop-count : goal.decreases-loop-count
decreases-loop-count l = l.count
