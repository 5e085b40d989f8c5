use Rattle.std.proofs.Common.{◌∙◌}
use Rattle.tsb_types.specs.Events.{either}
use Rattle.tsb_types.specs.Sets.{has_number}
use Rattle.tsb_events.proofs.tell.serving.Goals as goal

pub returns : goal.returns
returns c = c.joined-2.ensures ∙ (λ i. either (c.joined.ensures i) (has_number c.args.seen.now.red_clearances))
