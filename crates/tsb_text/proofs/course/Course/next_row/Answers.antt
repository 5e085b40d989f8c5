use Rattle.std.proofs.Common.{rules}
use Rattle.tsb_text.proofs.course.Course.next_row.Goals as goal

pub overflow_add-tick : goal.overflow_add-tick
overflow_add-tick c = search (rules, c.now-tick.ensures.limit)

pub returns-clause-row : goal.returns-clause-row
returns-clause-row c = search rules fits 100
