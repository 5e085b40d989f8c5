use Rattle.std.proofs.Common.{◌≡◌, ℕ, ◌-◌, ◌+◌, ◌<◌, ◌≤◌, ◌++◌, List, Some, None, decimal, get_or, length}
use Rattle.tsb_status_text.specs.Json.{values_from, following}
use Rattle.tsb_status_text.specs.StatusText.{wait_in, waits_text}
use Rattle.tsb_lines.specs.ShortLines.{fitting}
use Rattle.tsb_status_text.specs.declared.line.TheConstants.{LONGEST}
use Rattle.tsb_status_text.proofs.waits.push_waits.Given as goal

-- the waits so far, and those that are left, are all; and each so far is short
abbrev pub invariant-loop-k : goal.invariant-loop-k
invariant-loop-k l = record {
  told :
      fitting LONGEST (l.line ++ following l.first (values_from (wait_in (λ p. get_or l.waits (p - 1) None)) (l.k + 1) (16 - l.k)) 93)
      ≡ fitting LONGEST (l.fn.line ++ waits_text (λ p. get_or l.waits (p - 1) None));
  short : (p : ℕ) (v : List ℕ) → 1 ≤ p → p < 1 + l.k → wait_in (λ q. get_or l.waits (q - 1) None) p ≡ Some v → length v ≤ 69 + length (decimal p);
}
