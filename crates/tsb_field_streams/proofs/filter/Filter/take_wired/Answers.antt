use Rattle.tsb_field_streams.specs.Filtering.{with_used}
use Rattle.tsb_field_streams.proofs.filter.Filter.take_wired.Goals as goal

pub returns-clause-takes : goal.returns-clause-takes
returns-clause-takes c =
    λ g s at last. c.take_event.ensures.takes g (with_used s c.args.place) (c.use_wire.ensures.stands g s at) last
