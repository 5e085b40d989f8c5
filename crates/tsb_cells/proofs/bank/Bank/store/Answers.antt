use Rattle.std.proofs.Common.{arith, ◌≡◌, length, ap, ◌∙◌}
use Rattle.tsb_cells.proofs.RowLemmas.{row_at-with_row_other}
use Rattle.tsb_cells.proofs.bank.Bank.store.Goals as goal

pub returns-clause-others : goal.returns-clause-others
returns-clause-others g c =
    let width : length c.cells.result ≡ g.row.W = ap length c.cells.ensures ∙ g.met.L.Layout.length_cells c.args.now c.args.value in
    λ w k apart. rw c.put_row.ensures.cells (row_at-with_row_other c.args.self.now.cells c.args.at g.row.W w k c.cells.result width apart (omega arith))
