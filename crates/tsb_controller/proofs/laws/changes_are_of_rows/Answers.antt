use Rattle.tsb_controller.proofs.ChangeLemmas.{nothing-differs, changes-layers, changes-desk, changes-commit}
use Rattle.tsb_controller.proofs.laws.changes_are_of_rows.Goals as goal

pub returns-clause-none : goal.returns-clause-none
returns-clause-none c = nothing-differs

pub returns-clause-layers : goal.returns-clause-layers
returns-clause-layers c = changes-layers

pub returns-clause-desk : goal.returns-clause-desk
returns-clause-desk c = changes-desk

pub returns-clause-commit : goal.returns-clause-commit
returns-clause-commit c = changes-commit
