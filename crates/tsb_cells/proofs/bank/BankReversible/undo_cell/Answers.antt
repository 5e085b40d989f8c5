use Rattle.std.proofs.Common.{length-set, ◌∙◌}
use Rattle.tsb_cells.proofs.BlockLemmas.{kept-unwritten, length_kept}
use Rattle.tsb_cells.proofs.bank.BankReversible.undo_cell.Goals as goal

pub invariant_of-self-clause-cells_full : goal.invariant_of-self-clause-cells_full
invariant_of-self-clause-cells_full g c = length-set c.args.self.now.cells c.args.at c.args.old ∙ c.args.self.now.cells_full

pub invariant_of-self-clause-kept_full : goal.invariant_of-self-clause-kept_full
invariant_of-self-clause-kept_full g c = length_kept _ _ _ _

pub invariant_of-self-clause-same_closed : goal.invariant_of-self-clause-same_closed
invariant_of-self-clause-same_closed g c =
    λ closed. kept-unwritten g.row.N c.args.self.now.written _ c.args.self.now.before
    (length-set c.args.self.now.cells c.args.at c.args.old ∙ c.args.self.now.cells_full) (c.args.self.now.none_closed c.requires.closed)
