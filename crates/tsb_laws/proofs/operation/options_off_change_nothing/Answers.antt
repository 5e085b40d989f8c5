use Rattle.tsb_laws.proofs.operation.pattern.OptionsOffLemmas.{options-off}
use Rattle.tsb_laws.proofs.operation.options_off_change_nothing.Goals as goal

pub returns : goal.returns
returns c = options-off
