use Rattle.std.proofs.Common.{◌++◌, ◌∙◌, List, ℕ, Option, ap, subst}
use Rattle.std.specs.Prelude.{IfSome}
use Rattle.tsb_cells.specs.Bank.{cells_of}
use Rattle.tsb_heads.specs.declared.monitor.Trip.{Trip}
use Rattle.tsb_step.specs.MonitorLaws.{IsCause}
use Rattle.tsb_bench.proofs.MonitorCellLemmas.{set-none, set-some}
use Rattle.tsb_bench.proofs.monitor_cells.MonitorCells.set.Goals as goal
use Rattle.tsb_bench.proofs.monitor_cells.MonitorCells.set.Goals.{in-Some, in-None}

pub returns-clause-by : goal.returns-clause-by
returns-clause-by g c =
    elim c.match-found.branch [
      | in-Some w ↦
          (set-some c.args.now c.args.lamp.now w.in-Some.cause (cells_of c.store.new.self.bank) c.match-found.trip c.lamp_row.ensures.lit
          (subst (λ (o : Option Trip). IfSome o IsCause) w.in-Some.is c.requires.cause) (w.trip-is ∙ w.trip_row-trip.ensures)
          (c.store.ensures.cells ∙ ap (λ (xs : List ℕ). c.match-found.trip ++ xs) c.lamp_row.ensures.cells)).by
      | in-None w ↦
          (set-none c.args.now c.args.lamp.now (cells_of c.args.self.now.bank) (cells_of c.store.new.self.bank) c.match-found.trip c.requires.by c.lamp_row.ensures.lit
          (w.trip-is ∙ w.row-trip.ensures) (c.store.ensures.cells ∙ ap (λ (xs : List ℕ). c.match-found.trip ++ xs) c.lamp_row.ensures.cells)).by
    ]
