use Rattle.tsb_field_diagram.specs.Bands.{mark_in_change, tick_of_change}
use Rattle.tsb_field_diagram.proofs.LawLemmas.{stretches, none-reached}
use Rattle.tsb_field_diagram.proofs.laws.heads_are_told_by_stretches.Goals as goal

pub returns : goal.returns
returns c = λ band. (stretches tick_of_change (mark_in_change band), none-reached tick_of_change (mark_in_change band))
