use Rattle.tsb_laws.proofs.operation.pattern.SelectionLemmas.{selections_go_on}
use Rattle.tsb_laws.proofs.operation.selections_go_on.Goals as goal

pub returns : goal.returns
returns c = selections_go_on
