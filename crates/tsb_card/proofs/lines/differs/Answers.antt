use Rattle.std.proofs.Common.{arith, false, sym}
use Rattle.tsb_card.specs.Card.{permits}
use Rattle.tsb_card.specs.Lines.{is_otherwise, some_in_row, some_pair}
use Rattle.tsb_types.proofs.RunLemmas.{any-at, any-never}
use Rattle.tsb_card.proofs.RunLemmas.{so_far}
use Rattle.tsb_card.proofs.lines.differs.Goals as goal

pub returns-then-differs_in_row : goal.returns-then-differs_in_row
unfolding some_pair
returns-then-differs_in_row c =
    sym (any-at (some_in_row (is_otherwise (permits c.args.wanted.now) (permits c.args.found.now))) 1 16 c.loop-lower.lower c.loop-lower.auto.lower (omega arith) (sym c.if-differs_in_row.ensures))

pub loop-lower-preserved : goal.loop-lower-preserved
loop-lower-preserved c =
    so_far (some_in_row (is_otherwise (permits c.args.wanted.now) (permits c.args.found.now))) false 1 c.loop-lower.lower c.loop-lower.invariant (sym c.if-differs_in_row.ensures)

pub returns : goal.returns
unfolding some_pair
returns c = sym (any-never (some_in_row (is_otherwise (permits c.args.wanted.now) (permits c.args.found.now))) 1 16 (λ k from below. c.loop-lower.invariant k from (omega arith)))
