use Rattle.std.proofs.Common.{◌≡◌, drop, false}
use Rattle.tsb_cells.specs.Diff.{apply_diff}
use Rattle.tsb_cells.proofs.bank.BankReversible.undo.Given as goal

-- the rest of the changes leads to what all of them lead to
abbrev pub invariant-loop-cell : goal.invariant-loop-cell
invariant-loop-cell g l = record {
  rest : apply_diff l.self.cells (drop l.cell-index l.changes) ≡ apply_diff l.initial.self.cells l.changes;
  closed : l.self.is_open ≡ false;
}
