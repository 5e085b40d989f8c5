use Rattle.std.proofs.Common.{arith}
use Rattle.std.proofs.lemmas.Grind.{common_steps}
use Rattle.tsb_controller.proofs.controller.Controller.undo_entry.Goals as goal

pub returns-then-cell-lt-PHASES-clause-rows : goal.returns-then-cell-lt-PHASES-clause-rows
returns-then-cell-lt-PHASES-clause-rows c = grind (arith, common_steps)

pub returns-then-cell-lt-PHASES-clause-is : goal.returns-then-cell-lt-PHASES-clause-is
returns-then-cell-lt-PHASES-clause-is c = grind (arith, common_steps)

pub returns-then-cell-lt-COORD-clause-rows : goal.returns-then-cell-lt-COORD-clause-rows
returns-then-cell-lt-COORD-clause-rows c = grind (arith, common_steps)

pub returns-then-cell-lt-COORD-clause-is : goal.returns-then-cell-lt-COORD-clause-is
returns-then-cell-lt-COORD-clause-is c = grind (arith, common_steps)
