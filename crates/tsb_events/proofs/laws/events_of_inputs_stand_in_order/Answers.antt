use Rattle.tsb_events.proofs.OrderLemmas.{ticks-in-order, others-in-order, inputs-in-order, events-have-the-tick}
use Rattle.tsb_events.proofs.laws.events_of_inputs_stand_in_order.Goals as goal

pub returns : goal.returns
returns c = record { ticks = ticks-in-order; others = others-in-order; inputs = inputs-in-order; tick = events-have-the-tick }
