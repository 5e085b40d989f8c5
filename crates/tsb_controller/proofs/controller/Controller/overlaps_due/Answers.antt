use Rattle.std.proofs.Common.{◌∙◌, inl, inr, sym}
use Rattle.tsb_controller.proofs.controller.Controller.overlaps_due.Goals as goal

pub returns-then-is_empty-clause-still : goal.returns-then-is_empty-clause-still
returns-then-is_empty-clause-still c = inl (λ o. sym (c.timed_overlaps.ensures o) ∙ c.is_empty.ensures.none c.if-is_empty.true o)

pub returns-clause-still : goal.returns-clause-still
returns-clause-still c = inr c.some_overlaps_due.ensures.still
