use Rattle.std.proofs.Common.{◌≡◌, ◌<◌, ◌≤◌, ◌-◌, ℕ, drop, length, get_or}
use Rattle.tsb_lines.specs.Words.{words_of}
use Rattle.tsb_lines.proofs.words.next_word.Given as goal

abbrev pub invariant-loop-start : goal.invariant-loop-start
invariant-loop-start l = (l.start ≤ length l.line) × (words_of (drop l.start l.line) ≡ words_of l.line)

abbrev pub decreases-loop-start : goal.decreases-loop-start
decreases-loop-start l = length l.line - l.start

abbrev pub invariant-loop-end : goal.invariant-loop-end
invariant-loop-end l = (l.start ≤ l.end) × (l.end ≤ length l.line) × ((k : ℕ) → l.start ≤ k → k < l.end → get_or l.line k 0 ≡ 32 → ⊥)

abbrev pub decreases-loop-end : goal.decreases-loop-end
decreases-loop-end l = length l.line - l.end
