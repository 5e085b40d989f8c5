use Rattle.std.proofs.Common.{◌≡◌, ◌++◌}
use Rattle.tsb_cells.specs.Blocks.{kept_in}
use Rattle.tsb_cells.specs.Diff.{diff, shifted}
use Rattle.tsb_cells.proofs.bank.Bank.close_onto.Given as goal

-- what is added so far, and what the blocks that are left add, is the whole difference
abbrev pub invariant-loop-rest : goal.invariant-loop-rest
invariant-loop-rest g l =
    l.out.items ++ shifted l.offset (diff (kept_in g.row.N l.rest l.self.cells l.self.before) l.self.cells)
    ≡ l.initial.out.items ++ shifted l.offset (diff (kept_in g.row.N l.self.written l.self.cells l.self.before) l.self.cells)

abbrev pub decreases-loop-rest : goal.decreases-loop-rest
decreases-loop-rest g l = l.rest
