use Rattle.std.proofs.Common.{◌≡◌, length}
use Rattle.tsb_event_text.specs.Wide.{without_front}
use Rattle.tsb_event_text.proofs.wide.without_front.Given as goal

abbrev pub invariant-loop-left : goal.invariant-loop-left
invariant-loop-left l = without_front l.left ≡ without_front l.text

abbrev pub decreases-loop-left : goal.decreases-loop-left
decreases-loop-left l = length l.left
