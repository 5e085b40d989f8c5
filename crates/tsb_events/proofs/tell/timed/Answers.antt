use Rattle.std.proofs.Common.{◌∙◌}
use Rattle.tsb_types.specs.Events.{either}
use Rattle.tsb_types.specs.Sets.{has_number}
use Rattle.tsb_events.proofs.tell.timed.Goals as goal

pub returns : goal.returns
returns c = c.joined.ensures ∙ (λ i. either (has_number c.args.was.now.red_timings) (c.begun.ensures i))
