use Rattle.std.proofs.Common.{◌≡◌, ◌-◌, ◌+◌, ◌++◌}
use Rattle.tsb_types.specs.Sets.{has_number}
use Rattle.tsb_status_text.specs.Json.{values_from, number_in, numbers, following}
use Rattle.tsb_lines.specs.ShortLines.{fitting}
use Rattle.tsb_status_text.specs.declared.line.TheConstants.{LONGEST}
use Rattle.tsb_status_text.proofs.line.push_numbers.Given as goal

-- the numbers so far, and those that are left, are all
abbrev pub invariant-loop-k : goal.invariant-loop-k
invariant-loop-k l =
    fitting LONGEST (l.line ++ following l.first (values_from (number_in (has_number l.set)) (l.k + 1) (l.most - l.k)) 93)
    ≡ fitting LONGEST (l.fn.line ++ numbers (has_number l.set) l.most)
