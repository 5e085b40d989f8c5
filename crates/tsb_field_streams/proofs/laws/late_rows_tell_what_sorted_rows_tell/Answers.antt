use Rattle.tsb_field_streams.proofs.SortLemmas.{in-order-rows, sorted-rows}
use Rattle.tsb_field_streams.proofs.laws.late_rows_tell_what_sorted_rows_tell.Goals as goal

pub returns-clause-sorted : goal.returns-clause-sorted
returns-clause-sorted c = sorted-rows

pub returns-clause-order : goal.returns-clause-order
returns-clause-order c = in-order-rows
