use Rattle.tsb_field_display.specs.Shows.{is_same}
use Rattle.tsb_field_display.proofs.shown.same.Goals as goal

pub returns : goal.returns
unfolding is_same
returns c = c.eq.ensures
