use Rattle.std.proofs.Common.{◌≡◌, ℕ, ◌+◌, ◌<◌, ◌≤◌, false}
use Rattle.tsb_card.specs.Card.{permits}
use Rattle.tsb_card.specs.Lines.{is_otherwise}
use Rattle.tsb_card.proofs.lines.differs_in_row.Given as goal

-- none differs so far
abbrev pub invariant-loop-higher : goal.invariant-loop-higher
invariant-loop-higher l = (b : ℕ) → l.lower + 1 ≤ b → b < l.higher → is_otherwise (permits l.wanted) (permits l.found) l.lower b ≡ false
