use Rattle.std.proofs.Common.{◌∙◌, refl, sym}
use Rattle.tsb_field_streams.proofs.FilterLemmas.{all-large, all-fit}
use Rattle.tsb_field_streams.proofs.filter.Filter.finish.Goals as goal

pub returns-then-not-has_room-clause-whole : goal.returns-then-not-has_room-clause-whole
returns-then-not-has_room-clause-whole c =
    λ g s at. (
      refl,
      all-large g s c.args.self.now c.finish-rows.result c.text_size-size.result _ at (sym (c.finish-rows.ensures.whole g.from g.wires s.events at.street)) c.text_size-size.ensures.size
          (sym c.has_room.ensures ∙ c.if-not-has_room.true),
    )

pub returns-clause-fits : goal.returns-clause-fits
returns-clause-fits c =
    λ g s at.
    all-fit g s c.args.self.now c.finish-rows.result c.text_size-size.result _ at (sym (c.finish-rows.ensures.whole g.from g.wires s.events at.street)) c.text_size-size.ensures.size
    (sym c.has_room.ensures ∙ c.if-not-has_room.false)
