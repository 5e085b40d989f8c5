use Rattle.std.proofs.Common.{◌∙◌, inl}
use Rattle.tsb_field.proofs.review_run.answer_places.Goals as goal

pub returns-in-Ok : goal.returns-in-Ok
returns-in-Ok g c = let answered = rw (c.deref.ensures.value ∙ c.in-Ok.ensures) at c.answer_refused.ensures in (answered.0, inl answered.1)
