use Rattle.std.proofs.Common.{ap, ◌∙◌, sym, ℕ}
use Rattle.tsb_types.specs.Lists.{run_from}
use Rattle.tsb_plan.proofs.TableLemmas.{cell-within, found-order, length-objects}
use Rattle.tsb_plan.proofs.CellLemmas.{orders, share_no_cell, leave_no_cell}
use Rattle.tsb_plan.proofs.laws.cells_are_told_apart.Goals as goal

pub returns-clause-in_order : goal.returns-clause-in_order
returns-clause-in_order c = record { each = found-order; places = orders ∙ sym (ap (λ (n : ℕ). run_from 0 n) length-objects) }

pub returns-clause-within : goal.returns-clause-within
returns-clause-within c = cell-within

pub returns-clause-apart : goal.returns-clause-apart
returns-clause-apart c = share_no_cell

pub returns-clause-used : goal.returns-clause-used
returns-clause-used c = leave_no_cell
