use Rattle.std.proofs.Common.{◌≡◌, ◌≤◌, length, take}
use Rattle.tsb_event_text.specs.Wide.{without_end}
use Rattle.tsb_event_text.proofs.wide.without_end.Given as goal

abbrev pub invariant-loop-end : goal.invariant-loop-end
invariant-loop-end l = (l.end ≤ length l.text) × (without_end (take l.end l.text) ≡ without_end l.text)

abbrev pub decreases-loop-end : goal.decreases-loop-end
decreases-loop-end l = l.end
