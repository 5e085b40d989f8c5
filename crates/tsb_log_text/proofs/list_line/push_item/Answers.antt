use Rattle.std.proofs.Common.{arith, sym}
use Rattle.tsb_lines.proofs.ShortLemmas.{said, then}
use Rattle.tsb_log_text.proofs.ListLemmas.{item-one, item-run}
use Rattle.tsb_log_text.proofs.list_line.push_item.Goals as goal

pub returns-then-first-end : goal.returns-then-first-end
returns-then-first-end c =
    said (sym (item-run c.args.first c.args.end (omega arith)))
    (then c.push_number.ensures.line (then c.push.ensures.line c.push_number-then-first-end.ensures.line))

pub returns-else-first-end : goal.returns-else-first-end
returns-else-first-end c = said (sym (item-one c.args.first c.args.end (omega arith))) c.push_number.ensures.line
