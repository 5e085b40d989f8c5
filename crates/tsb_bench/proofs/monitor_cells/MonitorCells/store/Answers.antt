use Rattle.std.proofs.Common.{◌∙◌, ap, arith, List, ℕ}
use Rattle.tsb_cells.specs.Bank.{cells_of}
use Rattle.tsb_cells.specs.Row.{with_row}
use Rattle.tsb_bench.proofs.MonitorCellLemmas.{both-rows}
use Rattle.tsb_bench.proofs.monitor_cells.MonitorCells.store.Goals as goal

pub returns-clause-cells : goal.returns-clause-cells
returns-clause-cells g c =
    c.close_onto.ensures.cells ∙ c.put_row-2.ensures.cells
    ∙ ap (λ (cells : List ℕ). with_row cells 4 c.args.lamp.now) (c.put_row.ensures.cells ∙ ap (λ (cells : List ℕ). with_row cells 0 c.args.trip.now) c.open.ensures.cells)
    ∙ both-rows (cells_of c.args.self.now.bank) c.args.trip.now c.args.lamp.now c.args.self.now.bank.cells_full (omega arith) (omega arith)
