use Rattle.tsb_field_display.proofs.LawLemmas.{tell-the-heads}
use Rattle.tsb_field_display.proofs.laws.events_tell_the_heads.Goals as goal

pub returns : goal.returns
returns c = tell-the-heads
