use Rattle.std.proofs.Common.{◌≡◌, ℕ, ◌<◌, ◌≤◌, false}
use Rattle.tsb_card.specs.Card.{permits}
use Rattle.tsb_card.specs.Lines.{is_otherwise, some_in_row}
use Rattle.tsb_card.proofs.lines.differs.Given as goal

-- none differs so far
abbrev pub invariant-loop-lower : goal.invariant-loop-lower
invariant-loop-lower l = (a : ℕ) → 1 ≤ a → a < l.lower → some_in_row (is_otherwise (permits l.wanted) (permits l.found)) a ≡ false
