use Rattle.std.proofs.Common.{◌∙◌, inl, inr, refl, sym}
use Rattle.tsb_controller.proofs.controller.Controller.settle.Goals as goal

pub returns-then-is_empty-clause-settled : goal.returns-then-is_empty-clause-settled
returns-then-is_empty-clause-settled c = inl (λ o. sym (c.timed_overlaps.ensures o) ∙ c.is_empty.ensures.none c.if-is_empty.true o, refl)

pub returns-clause-settled : goal.returns-clause-settled
returns-clause-settled c = inr c.settle_some.ensures.following

pub returns-clause-rest : goal.returns-clause-rest
returns-clause-rest c = c.settle_some.ensures.following.rest
