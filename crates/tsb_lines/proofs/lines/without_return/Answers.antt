use Rattle.std.proofs.Common.{rules, length, ◌-◌}
use Rattle.tsb_lines.proofs.LineLemmas.{without-last, without-none}
use Rattle.tsb_lines.proofs.lines.without_return.Goals as goal

pub returns-then-line-eq13 : goal.returns-then-line-eq13
returns-then-line-eq13 c = without-last c.args.line.now (length c.args.line.now - 1) (search (rules, c.is_empty.ensures)) c.if-line-eq13.true

pub returns : goal.returns
returns c = without-none c.args.line.now (length c.args.line.now - 1) (search (rules, c.is_empty.ensures)) c.if-line-eq13.false
