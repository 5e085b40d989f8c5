use Rattle.std.proofs.Common.{◌≡◌, length}
use Rattle.tsb_words.specs.Near.{is_slip}
use Rattle.tsb_words.proofs.near.is_slip.Given as goal

-- what is left of both words differs by a slip, where they do
abbrev pub invariant-loop-left : goal.invariant-loop-left
invariant-loop-left l = is_slip l.left l.other ≡ is_slip l.right l.word

abbrev pub decreases-loop-left : goal.decreases-loop-left
decreases-loop-left l = length l.left
