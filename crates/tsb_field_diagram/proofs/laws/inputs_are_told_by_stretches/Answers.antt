use Rattle.tsb_field_diagram.specs.Bands.{mark_in_row, tick_of_row}
use Rattle.tsb_field_diagram.proofs.LawLemmas.{stretches, none-reached}
use Rattle.tsb_field_diagram.proofs.laws.inputs_are_told_by_stretches.Goals as goal

pub returns : goal.returns
returns c = λ band. (stretches tick_of_row (mark_in_row band), none-reached tick_of_row (mark_in_row band))
