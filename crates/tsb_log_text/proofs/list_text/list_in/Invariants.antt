use Rattle.std.proofs.Common.{length}
use Rattle.tsb_log_text.specs.RowLists.{parts}
use Rattle.tsb_log_text.proofs.SpelledLemmas.{HasRead}
use Rattle.tsb_log_text.proofs.list_text.list_in.Given as goal

-- the items so far are read
abbrev pub invariant-loop-first : goal.invariant-loop-first
invariant-loop-first l = HasRead l.most l.list l.on l.last (parts 44 l.rest)

abbrev pub decreases-loop-first : goal.decreases-loop-first
decreases-loop-first l = length l.rest
