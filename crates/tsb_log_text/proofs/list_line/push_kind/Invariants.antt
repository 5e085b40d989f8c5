use Rattle.std.proofs.Common.{◌≡◌, ◌++◌, ◌+◌, ◌-◌, ◌≤◌}
use Rattle.tsb_lines.specs.ShortLines.{fitting}
use Rattle.tsb_types.specs.Sets.{names}
use Rattle.tsb_log_text.specs.ListText.{kind_text, runs_from}
use Rattle.tsb_log_text.specs.declared.list_line.TheConstants.{LISTS_LINE}
use Rattle.tsb_log_text.proofs.RunsLemmas.{left_text}
use Rattle.tsb_log_text.proofs.list_line.push_kind.Given as goal

-- the bytes so far, and those of the runs that are left, are all
abbrev pub invariant-loop-number : goal.invariant-loop-number
invariant-loop-number l = record {
  from : 1 ≤ l.number;
  within : l.number ≤ l.most + 1;
  left : fitting LISTS_LINE (l.line ++ left_text l.is_first l.letter (runs_from l.number (l.most + 1 - l.number) (names l.on)))
      ≡ fitting LISTS_LINE (l.fn.line ++ kind_text l.letter l.most (names l.on));
}

abbrev pub decreases-loop-number : goal.decreases-loop-number
decreases-loop-number l = l.most + 1 - l.number
