use Rattle.tsb_field_streams.proofs.OrderLemmas.{in-order, as-they-came, stay-in-order}
use Rattle.tsb_field_streams.proofs.order_laws.sorted_rows_are_in_order.Goals as goal

pub returns-clause-order : goal.returns-clause-order
returns-clause-order c = in-order

pub returns-clause-came : goal.returns-clause-came
returns-clause-came c = as-they-came

pub returns-clause-stay : goal.returns-clause-stay
returns-clause-stay c = stay-in-order
