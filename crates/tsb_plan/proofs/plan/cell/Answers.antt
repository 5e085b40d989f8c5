use Rattle.std.proofs.Common.{arith, ◌+◌, ◌-◌, ◌<◌}
use Rattle.tsb_plan.specs.declared.object.TheConstants.{PLAN_CELLS}
use Rattle.tsb_plan.specs.Objects.{first_cell}
use Rattle.tsb_plan.proofs.TableLemmas.{cell-within}
use Rattle.tsb_plan.proofs.plan.cell.Goals as goal

pub overflow_add-result : goal.overflow_add-result
overflow_add-result c = let within : first_cell c.args.object + (c.args.index - 1) < PLAN_CELLS = cell-within c.args.object c.args.index c.requires in omega arith

pub returns-clause-within : goal.returns-clause-within
returns-clause-within c = let within : first_cell c.args.object + (c.args.index - 1) < PLAN_CELLS = cell-within c.args.object c.args.index c.requires in omega arith
