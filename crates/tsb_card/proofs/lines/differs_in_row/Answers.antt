use Rattle.std.proofs.Common.{◌+◌, ◌-◌, arith, sym}
use Rattle.tsb_card.specs.Card.{permits}
use Rattle.tsb_card.specs.Lines.{is_otherwise, some_in_row}
use Rattle.tsb_types.proofs.RunLemmas.{any-at, any-never}
use Rattle.tsb_card.proofs.lines.differs_in_row.Goals as goal

pub returns-then-is_otherwise : goal.returns-then-is_otherwise
unfolding some_in_row
returns-then-is_otherwise c =
    sym (any-at (is_otherwise (permits c.args.wanted.now) (permits c.args.found.now) c.args.lower) (c.args.lower + 1) (16 - c.args.lower) c.loop-higher.higher c.loop-higher.auto.higher (omega arith) (sym c.if-is_otherwise.ensures))

pub returns : goal.returns
unfolding some_in_row
returns c =
    sym (any-never (is_otherwise (permits c.args.wanted.now) (permits c.args.found.now) c.args.lower) (c.args.lower + 1) (16 - c.args.lower) (λ k from below. c.loop-higher.invariant k from (omega arith)))
