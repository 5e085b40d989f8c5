use Rattle.std.proofs.Common.{◌∙◌, sym}
use Rattle.tsb_field_streams.proofs.FilterLemmas.{event-kept, event-stands, not-later}
use Rattle.tsb_field_streams.proofs.filter.Filter.take_event.Goals as goal

pub returns-then-not-has_room-clause-takes : goal.returns-then-not-has_room-clause-takes
returns-then-not-has_room-clause-takes c =
    λ g s at last.
    let pushed = c.in-Some.ensures.taken g.from g.wires s.events at.street (not-later g s c.args.self.now c.args.event at last) in
    event-kept g s c.args.self.now c.args.event c.in-Some.rows c.push.new.self c.text_size-size.result _ at pushed.0 pushed.1 c.text_size-size.ensures.size
    (sym c.has_room.ensures ∙ c.if-not-has_room.true)

pub returns-clause-takes : goal.returns-clause-takes
returns-clause-takes c =
    λ g s at last.
    let pushed = c.in-Some.ensures.taken g.from g.wires s.events at.street (not-later g s c.args.self.now c.args.event at last) in
    event-stands g s c.args.self.now c.args.event c.in-Some.rows c.push.new.self c.text_size-size.result at last pushed.0 pushed.1 c.text_size-size.ensures.size
    (sym c.has_room.ensures ∙ c.if-not-has_room.false)
