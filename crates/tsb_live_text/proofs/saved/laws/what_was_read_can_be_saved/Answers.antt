use Rattle.tsb_live_text.proofs.saved.ReadLemmas.{kept-spelled, reads-spelled, rows-fit}
use Rattle.tsb_live_text.proofs.saved.laws.what_was_read_can_be_saved.Goals as goal

pub returns-clause-inputs : goal.returns-clause-inputs
returns-clause-inputs c = reads-spelled

pub returns-clause-rows : goal.returns-clause-rows
returns-clause-rows c = rows-fit

pub returns-clause-kept : goal.returns-clause-kept
returns-clause-kept c = kept-spelled
