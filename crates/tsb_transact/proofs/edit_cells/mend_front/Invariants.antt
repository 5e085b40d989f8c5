use Rattle.std.proofs.Common.{◌≡◌, take}
use Rattle.indexmap.specs.IndexMap.{index_map_len, spare}
use Rattle.tsb_cells.specs.Bank.{cells_of}
use Rattle.tsb_transact.specs.Rows.{pairs_to}
use Rattle.tsb_transact.proofs.edit_cells.mend_front.Given as goal

abbrev pub invariant-loop-i : goal.invariant-loop-i
invariant-loop-i l = record {
  same : take l.i l.edits.entries ≡ pairs_to (cells_of l.bank) l.i;
  len : index_map_len l.edits ≡ index_map_len l.fn.edits;
  room : spare l.edits ≡ spare l.fn.edits;
}
