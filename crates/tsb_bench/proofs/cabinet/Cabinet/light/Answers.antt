use Rattle.std.proofs.Common.{◌∙◌, List, ℕ, ap, ◌++◌}
use Rattle.tsb_cells.specs.Bank as bank
use Rattle.tsb_cells.specs.Diff.{diff, shifted}
use Rattle.tsb_step.specs.declared.first_cell.TheConstants.{MONITOR}
use Rattle.tsb_bench.specs.Cabinet.{rows_of}
use Rattle.tsb_bench.proofs.InputLemmas.{fault-done}
use Rattle.tsb_bench.proofs.cabinet.Cabinet.light.Goals as goal

pub returns-clause-done : goal.returns-clause-done
returns-clause-done c =
    fault-done c.args.tick (rows_of c.args.self.now) (bank.cells_of c.set.new.self.bank) c.args.lamp.now c.found_with-found.result c.set.new.out.items c.requires.by
    c.found_with-found.ensures.tripped c.found_with-found.ensures.lit c.set.ensures.lamp c.set.ensures.trip c.set.ensures.by
    (c.set.ensures.changes ∙ ap (λ (es : List (ℕ × ℕ)). es ++ shifted MONITOR (diff (rows_of c.args.self.now).monitor (bank.cells_of c.set.new.self.bank))) c.requires.empty)
