use Rattle.std.proofs.Common.{◌∙◌, refl, sym}
use Rattle.tsb_controller.proofs.controller.Controller.trails.Goals as goal

pub returns-then-tripped : goal.returns-then-tripped
returns-then-tripped c now o by from to = c.empty.ensures.none o ∙ sym (rw c.if-tripped.true refl)

pub returns-else-tripped : goal.returns-else-tripped
returns-else-tripped c now o by from to = c.trailing_greens.ensures now o by from to ∙ sym (rw c.if-tripped.false refl)
