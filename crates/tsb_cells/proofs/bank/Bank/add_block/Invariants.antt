use Rattle.std.proofs.Common.{◌≡◌, ◌+◌, ◌/◌, ◌++◌, drop}
use Rattle.tsb_cells.specs.Blocks.{block_changes}
use Rattle.tsb_cells.specs.Diff.{diff_from, shifted}
use Rattle.tsb_cells.specs.Row.{row_at}
use Rattle.tsb_cells.proofs.bank.Bank.add_block.Given as goal

-- what is added, and what the cells from the next one on add, is what all cells of the block add
abbrev pub invariant-loop-k : goal.invariant-loop-k
invariant-loop-k g l =
    l.out.items ++ shifted l.offset
    (diff_from (l.first + l.k) (drop l.k (row_at (g.row.N / 64 + 1) l.self.before l.first)) (drop l.k (row_at (g.row.N / 64 + 1) l.self.cells l.first)))
    ≡ l.initial.out.items ++ shifted l.offset (block_changes g.row.N l.block l.self.before l.self.cells)
