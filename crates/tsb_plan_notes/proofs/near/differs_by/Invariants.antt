use Rattle.std.proofs.Common.{◌≡◌, length}
use Rattle.tsb_plan_notes.specs.Near.{differs_by}
use Rattle.tsb_plan_notes.proofs.near.differs_by.Given as goal

-- what is left of both texts differs so, where they do
abbrev pub invariant-loop-left : goal.invariant-loop-left
invariant-loop-left l = differs_by l.difference l.left l.other ≡ differs_by l.difference l.right l.word

abbrev pub decreases-loop-left : goal.decreases-loop-left
decreases-loop-left l = length l.left
